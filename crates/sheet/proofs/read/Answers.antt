-- `sheet::read` meets its contract.
use Rattle.std.proofs.Common.{rules, ◌≡◌, refl, sym, ap, ◌∙◌, ℕ, List}
use Rattle.rules.specs.Reading.{read_of}
use Rattle.rules.proofs.Capacity.{capacity}
use Rattle.tally.specs.declared.Tally.{Tally}
use Rattle.tally.specs.Calls.{fresh_tally}
use Rattle.sheet.specs.Promise.{read_with}
use Rattle.sheet.proofs.Following.{refused_as, fault_as, empty_still, open_refused, open_sound, open_accepted}
use Rattle.sheet.proofs.read.Goals as goal

-- a sheet is read from its start with the card of the fresh tally
start : (s : List ℕ) (t : Tally) → t ≡ fresh_tally → read_of s ≡ read_with s t.card
unfolding read_of
start s t e = ap (λ (u : Tally). read_with s u.card) (sym e)

pub returns-in_err-begin : goal.returns-in_err-begin
returns-in_err-begin c = refused_as _ _ _ c.from_residual.ensures.1 (fault_as (start _ _ c.fresh-tally.ensures) c.in_err-begin.ensures)

pub returns-in-Err : goal.returns-in-Err
returns-in-Err c =
    record { right = start _ _ c.fresh-tally.ensures ∙ (c.in_ok-begin.ensures.right ∙ sym (open_refused _ _ _ _ c.in-Err.ensures)); file = refl }

pub returns-in_err-lines : goal.returns-in_err-lines
returns-in_err-lines c =
    let begun = c.in_ok-begin.ensures.right in
    let none = empty_still _ _ _ c.fresh-tally.ensures in
    let end = c.in_err-lines.ensures c.in_ok-begin.begin.head.last (open_sound _ none c.in_default.ensures (search (rules, capacity)) (search (rules, capacity))) in
    refused_as _ _ _ c.from_residual-in_err-lines.ensures.1
    (fault_as (start _ _ c.fresh-tally.ensures ∙ (begun ∙ sym (open_accepted _ none c.in_default.ensures _ _ _ _))) end)

pub returns : goal.returns
returns c =
    let begun = c.in_ok-begin.ensures.right in
    let none = empty_still _ _ _ c.fresh-tally.ensures in
    let end = c.in_ok-lines.ensures c.in_ok-begin.begin.head.last (open_sound _ none c.in_default.ensures (search (rules, capacity)) (search (rules, capacity))) in
    record {
      right = start _ _ c.fresh-tally.ensures ∙ (begun ∙ (sym (open_accepted _ none c.in_default.ensures _ _ _ _) ∙ end.right));
      sound = end.sound;
    }
