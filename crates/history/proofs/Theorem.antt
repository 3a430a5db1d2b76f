-- The claims about whole lists of calls. Assumes nothing.
use Prim.Native.Nat.{ℕ}
use mathlib.Core.Path.{◌≡◌, sym, ap, ap₂, ◌∙◌}
use mathlib.Core.List.{List}
use Rattle.rules.specs.Figures.{figures}
use Rattle.rules.specs.Report.{report_on}
use Rattle.rules.specs.Writing.{write_on}
use Rattle.rules.specs.ListReading.{list_on}
use Rattle.rules.specs.ListWriting.{write_list_on}
use Rattle.rules.specs.Ledger.{Ledger, held, open_on, enter_on, weigh_on, withdraw_on, join_on}
use Rattle.tally.specs.declared.Tally.{Tally}
use Rattle.tally.specs.View.{view}
use Rattle.tally.proofs.Steps.{size_is_lem}
use Rattle.history.specs.Calls.{Calls, ledger, Answer}
use Rattle.history.specs.Run.{Run}
use Rattle.history.specs.Whole.{Ends, Whole}
use Rattle.history.specs.Alike.{OrderIsFree}
use Rattle.history.proofs.Balance.{balanced}
use Rattle.history.proofs.Agreement.{agrees}
use Rattle.history.proofs.Reached.{sound_reached}
use Rattle.history.proofs.Printed.{lines}
use Rattle.history.proofs.Reporting.{same_report, same_sheet, same_list, enough, text_is}

ends : (cs : Calls) (ns : List Answer) (t : Tally) → Run cs ns t → Ends cs ns t
ends cs ns t r =
    let i = agrees r in
    record {
      same = i.same;
      judged = i.judged;
      count = (balanced cs).even;
      number = sym (size_is_lem t i.sound) ∙ ap held i.same;
      sum = i.sound.sum ∙ ap (λ (g : Ledger). (figures g).sum) i.same;
      squares = i.sound.squares ∙ ap (λ (g : Ledger). (figures g).squares) i.same;
      sound = i.sound;
    }

pub whole : Whole
whole =
    record {
      ends = ends;
      alike = λ cs ds ns ms t u p q e κ₁ κ₂ b₁ b₂ l r₁ r₂ a₁ a₂ x y.
          let i = agrees p in
          let j = agrees q in
          same_report (ledger cs) b₁.now b₂.now r₁ r₂ a₁.now a₂.now l
          (x.right i.sound ∙ ap (λ (g : Ledger). report_on g b₁.now) i.same)
          (y.right j.sound ∙ ap (λ (g : Ledger). report_on g b₂.now) (j.same ∙ sym e));
      reports = λ cs ns t p κ b n a x.
          let i = agrees p in
          let h = x.right i.sound in
          let many = enough (view t) b.now n a.now h in
          rw (text_is (view t) b.now n a.now h, ← i.same) (lines (view t) many (sound_reached t i.sound many));
    }

pub order_is_free : OrderIsFree
order_is_free cs ds ns ms t u p q e =
    let i = agrees p in
    let j = agrees q in
    let s : view t.now ≡ view u.now = i.same ∙ (e ∙ sym j.same) in
    record {
      opens = λ κ₁ κ₂ l c r w x y a b. a.right ∙ (ap (λ (g : Ledger). open_on g l c) s ∙ sym b.right);
      enters = λ κ₁ κ₂ k n r w x y a b. a.answers.right i.sound ∙ (ap (λ (g : Ledger). enter_on g k n) s ∙ sym (b.answers.right j.sound));
      weighs = λ κ₁ κ₂ k c n r w x y a b. a.answers.right i.sound ∙ (ap (λ (g : Ledger). weigh_on g k c n) s ∙ sym (b.answers.right j.sound));
      withdraws = λ κ₁ κ₂ k r w x y a b. a.answers.right i.sound ∙ (ap (λ (g : Ledger). withdraw_on g k) s ∙ sym (b.answers.right j.sound));
      joins = λ κ₁ κ₂ κ₃ κ₄ o v f h d r w x y a b.
          let m = agrees f in
          let n = agrees h in
          a.answers.right (i.sound, m.sound)
          ∙ (ap₂ (λ (x y : Ledger). join_on x y) s (m.same ∙ (d ∙ sym n.same)) ∙ sym (b.answers.right (j.sound, n.sound)));
      lists = λ κ₁ κ₂ κ₃ κ₄ l₁ l₂ e r w x y a b.
          a.right i.sound ∙ (ap₂ (λ (g : Ledger) (l : List ℕ). list_on g l) s e ∙ sym (b.right j.sound));
      writes = λ κ₁ κ₂ b₁ b₂ l r₁ r₂ a₁ a₂ x y.
          same_sheet (view t.now) b₁.now b₂.now r₁ r₂ a₁.now a₂.now l
          (x.right i.sound)
          (y.right j.sound ∙ ap (λ (g : Ledger). write_on g b₂.now) (sym s));
      writes_list = λ κ₁ κ₂ b₁ b₂ l r₁ r₂ a₁ a₂ x y.
          same_list (view t.now) b₁.now b₂.now r₁ r₂ a₁.now a₂.now l
          (x.right i.sound)
          (y.right j.sound ∙ ap (λ (g : Ledger). write_list_on g b₂.now) (sym s));
    }
