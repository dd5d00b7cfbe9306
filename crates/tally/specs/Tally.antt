-- A tally: one row more, and its text.
use Rattle.std.specs.Prelude.{ℕ, ◌+◌, ◌-◌, ◌^◌, Bool, if◌then◌else◌, min, List, ◌++◌, codes, decimal}
use Rattle.tally.specs.declared.Tally.{Tally}

-- one more, up to the largest number
abbrev pub one_more : ℕ → ℕ
one_more n = min (n + 1) (2 ^ 32 - 1)

abbrev pub counted : Bool → Tally → Tally
counted is_right t = record { checked = one_more t.checked; mismatches = if is_right then t.mismatches else one_more t.mismatches }

abbrev pub text_of : Tally → List ℕ
text_of t = decimal t.checked ++ (codes " checked, " ++ (decimal t.mismatches ++ codes " mismatches"))
