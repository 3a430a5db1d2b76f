-- Worked lines of a comma list, worked lists on a ledger and worked sheets with a list, each table one computation. Assumes nothing.
use mathlib.Core.Path.{◌≡◌, refl}
use mathlib.Core.List.{List, [], ◌∷◌, map}
use Prim.Native.Nat.{ℕ}
use Prim.Native.String.{String}
use Rattle.rules.specs.Limits.{most_held}
use Rattle.rules.specs.Text.{text, decimals, decimal, last_digits, pointed}
use Rattle.rules.specs.Contents.{total}
use Rattle.rules.specs.Cards.{head_of, card_of}
use Rattle.rules.specs.Lines.{cut_from}
use Rattle.rules.specs.Ledger.{Ledger, fresh_ledger, opened, held}
use Rattle.rules.specs.Decimals.{all_decimal, value_behind, decimal_value}
use Rattle.rules.specs.ListReading.{bad, says, plain_of, first, hundredths_of, percent_of, say_of, enter_lines, list_on}
use Rattle.rules.specs.ListWriting.{list_line, list_lines, list_of}
use Rattle.rules.specs.declared.Attribute.TheVariants.{Purity, Germination, Count}

-- ---- lines
-- percentages; the long numbers are 2 ^ 32 + 1 and 2 ^ 64 + 3
pub percentages :
    map (λ (s : String). say_of Purity (text s)) ("1,4" ∷ "1,98.5" ∷ "1,98.05" ∷ "0,0" ∷ "7,0.00" ∷ "7,0.5" ∷ "65535,100.00" ∷ "3,100.01" ∷ "4294967297,1" ∷ "1,18446744073709551619" ∷ [])
    ≡ says 1 400 ∷ says 1 9850 ∷ says 1 9805 ∷ says 0 0 ∷ says 7 0 ∷ says 7 50 ∷ says 65535 10000 ∷ says 3 10001 ∷ says 4294967297 100 ∷ says 1 1844674407370955161900 ∷ []
unfolding plain_of first hundredths_of percent_of say_of all_decimal value_behind decimal_value
percentages = refl

pub bad_percentages :
    map (λ (s : String). say_of Germination (text s)) ("" ∷ "1" ∷ "1," ∷ ",1" ∷ "1,5." ∷ "1,.5" ∷ "1,05" ∷ "1,00.5" ∷ "01,5" ∷ "00,5" ∷ "1,5.123" ∷ "1,5.1.2" ∷ "1,5,6" ∷ "1;5" ∷ " 1,5" ∷ "1, 5" ∷ "1,-5" ∷ "+1,5" ∷ "1,5\r" ∷ "1.0,5" ∷ "1,5e1" ∷ [])
    ≡ bad ∷ bad ∷ bad ∷ bad ∷ bad ∷ bad ∷ bad ∷ bad ∷ bad ∷ bad ∷ bad ∷ bad ∷ bad ∷ bad ∷ bad ∷ bad ∷ bad ∷ bad ∷ bad ∷ bad ∷ bad ∷ []
unfolding plain_of first hundredths_of percent_of say_of all_decimal value_behind decimal_value
bad_percentages = refl

pub counts_read :
    map (λ (s : String). say_of Count (text s)) ("1,4" ∷ "2,0" ∷ "3,10001" ∷ "4,5.0" ∷ "4,5." ∷ "4,05" ∷ [])
    ≡ says 1 4 ∷ says 2 0 ∷ says 3 10001 ∷ bad ∷ bad ∷ bad ∷ []
unfolding plain_of first hundredths_of percent_of say_of all_decimal value_behind decimal_value
counts_read = refl

-- ---- lists
-- a lot of 70 containers, purity or counts
abbrev purity : Ledger
purity = opened (record { attribute = 0; containers = 70 }) (card_of (head_of 10 0 1) [] 0 [] [] [] [])

abbrev seeds : Ledger
seeds = opened (record { attribute = 2; containers = 70 }) (card_of (head_of 10 0 0) [] 0 [] [] [] [])

-- number, line, and how many are held after it
pub record Came : Type 0 where
  pub number : ℕ
  pub line : ℕ
  pub held : ℕ

abbrev came : ℕ → ℕ → ℕ → Came
came e n k = record { number = e; line = n; held = k }

unfoldable pub answered : Ledger → List String → List Came
answered g [] = []
answered g (s ∷ ss) = (let r = list_on g (text s) in came r.number r.line (held r.ledger)) ∷ answered g ss

-- an empty list is accepted; a last line without its end byte is bad; 20 before 6, 6 before 7, 7 before 8; a refusal leaves nothing
pub lists_answered :
    answered purity ("" ∷ "1,4\n2,5\n" ∷ "1,4\n2,5" ∷ "\n" ∷ "1,4\n1,5\n" ∷ "1,4\n71,05\n" ∷ "71,100.01\n" ∷ "0,1\n" ∷ "4294967297,1\n" ∷ "1,4\n1,100.01\n" ∷ "1,184467440737095516190\n" ∷ "1,4\n\n" ∷ [])
    ≡ came 0 0 0 ∷ came 0 0 2 ∷ came 20 2 0 ∷ came 20 1 0 ∷ came 8 2 0 ∷ came 20 2 0 ∷ came 6 1 0 ∷ came 6 1 0 ∷ came 6 1 0 ∷ came 7 2 0 ∷ came 7 1 0 ∷ came 20 2 0 ∷ []
unfolding answered list_on enter_lines cut_from plain_of first hundredths_of percent_of say_of all_decimal value_behind decimal_value total most_held
lists_answered = refl

-- a fresh ledger reads percentages, and has no container
pub fresh_answered : answered fresh_ledger ("" ∷ "1,4.5\n" ∷ "1,4.567\n" ∷ "1,4" ∷ []) ≡ came 0 0 0 ∷ came 6 1 0 ∷ came 20 1 0 ∷ came 20 1 0 ∷ []
unfolding answered list_on enter_lines cut_from plain_of first hundredths_of percent_of say_of all_decimal value_behind decimal_value total
fresh_answered = refl

-- ---- what is written: containers ascending, two places for percentages and none for counts; nothing where nothing is held
pub list_written : list_of (list_on purity (text "70,4\n3,98.5\n10,0.05\n2,100\n")).ledger ≡ text "2,100.00\n3,98.50\n10,0.05\n70,4.00\n"
unfolding list_of list_lines list_line list_on enter_lines cut_from plain_of first hundredths_of percent_of say_of all_decimal value_behind decimal_value total decimal decimals pointed last_digits most_held
list_written = refl

pub counts_written : list_of (list_on seeds (text "70,4\n3,98\n10,0\n2,10000\n")).ledger ≡ text "2,10000\n3,98\n10,0\n70,4\n"
unfolding list_of list_lines list_line list_on enter_lines cut_from plain_of first hundredths_of percent_of say_of all_decimal value_behind decimal_value total decimal decimals pointed last_digits most_held
counts_written = refl

pub fresh_written : list_of fresh_ledger ≡ []
unfolding list_of list_lines
fresh_written = refl
