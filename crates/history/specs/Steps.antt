-- The steps of a run: what the functions' own contracts, as the check reads them, say of a call. What a call changes is lent to it: a
-- tally, or a buffer, as it is before the call, and as the call returns.
use Rattle.std.specs.Prelude.{ℕ, List, Result, ⊤}
use base.Fml.{Lft}
use Rattle.std.specs.Borrow.{Bor, MutBor}
use Rattle.rules.specs.declared.Refusal.{Refusal}
use Rattle.rules.specs.declared.Lot.{Lot}
use Rattle.rules.specs.declared.Card.{Card}
use Rattle.rules.specs.declared.Pans.{Pans}
use Rattle.rules.specs.declared.Range.{Range}
use Rattle.rules.specs.declared.Fault.{Fault}
use Rattle.tally.specs.declared.Tally.{Tally}
use Rattle.tally.proofs.fresh.Reads as fresh-reads
use Rattle.tally.proofs.Tally.«open».Reads as open-reads
use Rattle.tally.proofs.Tally.enter.Reads as enter-reads
use Rattle.tally.proofs.Tally.weigh.Reads as weigh-reads
use Rattle.tally.proofs.Tally.withdraw.Reads as withdraw-reads
use Rattle.tally.proofs.Tally.join.Reads as join-reads
use Rattle.held_lists.proofs.range_of.Reads as range-reads
use Rattle.report.proofs.report.Reads as report-reads
use Rattle.writer.proofs.write.Reads as write-reads
use Rattle.sheet.specs.declared.Reading.{Reading}
use Rattle.sheet.proofs.read.Reads as read-reads
use Rattle.judge.proofs.judge.Reads as judge-reads
use Rattle.list_reader.proofs.read_list.Reads as read-list-reads
use Rattle.list_writer.proofs.write_list.Reads as write-list-reads

abbrev pub FreshStep : Tally → Type 0
FreshStep t = fresh-reads.Learnt tt tt t tt

-- a call on the tally t, answered e, that leaves u
abbrev pub OpenStep : Lft → MutBor Tally → Lot → Card → Result ⊤ Refusal → MutBor Tally → Type 0
OpenStep κ t l c e u = open-reads.Learnt (κ, tt) (t, (l, (c, tt))) e (u, (l, (c, tt)))

abbrev pub EnterStep : Lft → MutBor Tally → ℕ → ℕ → Result ⊤ Refusal → MutBor Tally → Type 0
EnterStep κ t k x e u = enter-reads.Learnt (κ, tt) (t, (k, (x, tt))) e (u, (k, (x, tt)))

abbrev pub WeighStep : Lft → MutBor Tally → ℕ → ℕ → Pans → Result ⊤ Refusal → MutBor Tally → Type 0
WeighStep κ t k s p e u = weigh-reads.Learnt (κ, tt) (t, (k, (s, (p, tt)))) e (u, (k, (s, (p, tt))))

abbrev pub WithdrawStep : Lft → MutBor Tally → ℕ → Result ⊤ Refusal → MutBor Tally → Type 0
WithdrawStep κ t k e u = withdraw-reads.Learnt (κ, tt) (t, (k, tt)) e (u, (k, tt))

abbrev pub JoinStep : Lft → Lft → MutBor Tally → Bor Tally → Result ⊤ Refusal → MutBor Tally → Type 0
JoinStep κ₁ κ₂ t o e u = join-reads.Learnt (κ₁, (κ₂, tt)) (t, (o, tt)) e (u, (o, tt))

-- a comma list read into t, likewise
abbrev pub ListStep : Lft → Lft → MutBor Tally → Bor (List ℕ) → Result ⊤ Fault → MutBor Tally → Type 0
ListStep κ₁ κ₂ t list e u = read-list-reads.Learnt (κ₁, (κ₂, tt)) (t, (list, tt)) e (u, (list, tt))

-- a walk over these results, for their range
abbrev pub RangeStep : Lft → Bor (List ℕ) → Range → Type 0
RangeStep κ results r = range-reads.Learnt (κ, tt) (results, tt) r (results, tt)

-- a report of t into the buffer that has `before`, and `after` as the call returns
abbrev pub ReportStep : Lft → Tally → MutBor (List ℕ) → Result ℕ Refusal → MutBor (List ℕ) → Type 0
ReportStep κ t before r after = report-reads.Learnt (κ, tt) (t, (before, tt)) r (t, (after, tt))

-- the sheet of t, written into the buffer that has `before`, and `after` as the call returns
abbrev pub WriteStep : Lft → Tally → MutBor (List ℕ) → Result ℕ Refusal → MutBor (List ℕ) → Type 0
WriteStep κ t before r after = write-reads.Learnt (κ, tt) (t, (before, tt)) r (t, (after, tt))

-- the held results of t as a comma list, likewise
abbrev pub WriteListStep : Lft → Tally → MutBor (List ℕ) → Result ℕ Refusal → MutBor (List ℕ) → Type 0
WriteListStep κ t before r after = write-list-reads.Learnt (κ, tt) (t, (before, tt)) r (t, (after, tt))

-- a sheet that is read
abbrev pub ReadStep : Lft → Bor (List ℕ) → Result Reading Fault → Type 0
ReadStep κ sheet r = read-reads.Learnt (κ, tt) (sheet, tt) r (sheet, tt)

-- a sheet that is judged into a buffer
abbrev pub JudgeStep : Lft → Lft → Bor (List ℕ) → MutBor (List ℕ) → Result ℕ Refusal → MutBor (List ℕ) → Type 0
JudgeStep κ₁ κ₂ sheet before r after = judge-reads.Learnt (κ₁, (κ₂, tt)) (sheet, (before, tt)) r (sheet, (after, tt))
