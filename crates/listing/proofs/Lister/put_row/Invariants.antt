-- The lines that are left complete the text.
use Rattle.std.proofs.Common.{◌≡◌, ◌++◌, drop, string_bytes}
use Rattle.listing.specs.Listing.{lines_of}
use Rattle.listing.proofs.Lister.put_row.Given as goal

abbrev pub invariant-loop-i : goal.invariant-loop-i
invariant-loop-i l =
    (string_bytes l.text ++ lines_of l.self.number l.i (drop l.i l.row) ≡ string_bytes l.initial.text ++ lines_of l.initial.self.number 0 l.row)
    × (l.self.number ≡ l.initial.self.number)
