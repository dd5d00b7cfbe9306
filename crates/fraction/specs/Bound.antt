-- The bound on the two numbers of a fraction.
use Rattle.std.specs.Prelude.{ℕ, ◌-◌, ◌^◌}

abbrev pub R : ℕ
R = 2 ^ 62 - 1
