-- The laws of the operations by numerators and denominators, together.
use Rattle.rational.specs.Parts.{PartsLaws}
use Rattle.rational.proofs.Compared.{lowest_terms, equality_by_parts, equality_by_value, order_by_parts, whole_by_parts, zero_by_parts}
use Rattle.rational.proofs.Sums.{sum_by_parts, difference_by_parts, negative_by_parts}
use Rattle.rational.proofs.Products.{divisors_apart, product_by_parts, reciprocal_by_parts, quotient_by_reciprocal, quotient_by_parts}
use Rattle.rational.proofs.Roots.{square_root_by_parts, cube_root_by_parts, square_root_from_parts, cube_root_from_parts}

pub parts_laws : PartsLaws
parts_laws = record {
  lowest_terms = lowest_terms;
  equality = equality_by_parts;
  equal_value = equality_by_value;
  order = order_by_parts;
  whole = whole_by_parts;
  zero = zero_by_parts;
  divisors = divisors_apart;
  sum = sum_by_parts;
  difference = difference_by_parts;
  negative = negative_by_parts;
  product = product_by_parts;
  reciprocal_is = reciprocal_by_parts;
  by_reciprocal = quotient_by_reciprocal;
  quotient = quotient_by_parts;
  square_root = square_root_by_parts;
  cube_root = cube_root_by_parts;
  square_root_from = square_root_from_parts;
  cube_root_from = cube_root_from_parts;
}
