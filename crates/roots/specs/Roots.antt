-- What it is to be the nearest number to an exact root, stated in whole numbers, and the cube root of a float. Assumes nothing.
use Rattle.std.specs.Prelude.{◌≡◌, ℕ, suc, ◌+◌, ◌*◌, ◌/◌, ◌^◌, ◌<◌, Bool, true, false, T, ℤ, pos, Float}
use Rattle.std.specs.Float.{Format, nan, inf, fin}
use Rattle.std.specs.Float.Ieee.{prec, low, up, down, fits}
use Rattle.std.specs.Float.Ieee.Exact.{HasValue}
use Rattle.std.specs.Float.Ieee.Positive.{positive}
use Rattle.std.specs.Float as Floats
use Rattle.roots.specs.Digits.{rounded, root_twice}

-- ---- in whole numbers

-- n has at most p significant binary digits
abbrev pub Held : ℕ → ℕ → Type 0
Held p n = (q : ℕ) × (j : ℕ) × (q < 2 ^ p) × (n ≡ q * 2 ^ j)

-- Of the numbers with at most p significant digits r is the nearest to the root of degree d of x, all in units of 2 ^ -l.
-- For any other y the root lies on r's side of the middle of y and r: that middle is (y + r) / 2 units, and its power of degree d is compared with x.
pub record Nearest (d p l x r : ℕ) : Type 0 where
  pub held : Held p r
  pub lower : (y : ℕ) → Held p y → y < r → (y + r) ^ d * 2 ^ l < x * 2 ^ (suc l * d)
  pub upper : (y : ℕ) → Held p y → r < y → x * 2 ^ (suc l * d) < (y + r) ^ d * 2 ^ l

-- ---- of floats

-- Of the library: `HasValue x s a b` says that x is finite, of sign s and size a / b; `fits f x` that x is a float of the format f; `positive x` that it is finite and above zero.
-- `prec f` is how many digits the format has, and 2 ^ -(low f) its smallest value: 24 and 149 for `f32`.

-- x and r are not negative, and in units of the format's smallest value r is the nearest root of x
pub record Root (d p : ℕ) (f : Format) (x r : Float) : Type 0 where
  pub number : ℕ
  pub root : ℕ
  pub number_is : HasValue x false number (2 ^ low f)
  pub root_is : HasValue r false root (2 ^ low f)
  pub nearest : Nearest d p (low f) number root

-- the signs are the same, and P holds of the sizes where x is finite and not zero
pub record Signed (P : Float → Float → Type 0) (x r : Float) : Type 0 where
  pub sign : Floats.is_sign_negative r ≡ Floats.is_sign_negative x
  pub size_is : T (positive (Floats.float_with_sign false x)) → P (Floats.float_with_sign false x) (Floats.float_with_sign false r)

-- The cube root, rounded once to 24 significant digits. It is taken to 2271 binary places, far more than are kept, and half a place more says that it goes on.
unfoldable pub cbrt : Format → Float → Float
cbrt f nan = nan
cbrt f (inf s) = inf s
cbrt f (fin s ℕ.zero e) = fin s 0 e
cbrt f (fin s (suc m) e) = rounded 24 f s (root_twice 3 (suc m * up e * 2 ^ 6813 / down e)) (2 ^ 2272)

-- The square root of each way to write a float. It is the library's, save at a zero: here it keeps how the zero is written, there it is written as
-- the formats do. Of the floats of a format both are the same.
unfoldable pub sqrt_as_written : Format → Float → Float
sqrt_as_written f (fin s ℕ.zero e) = fin s 0 e
sqrt_as_written f x = Floats.sqrt f x

-- ---- the laws

-- every float of a format that is not negative has at most the format's digits
abbrev pub FloatsHeld : Type 0
FloatsHeld = (f : Format) (x : Float) (n : ℕ) → T (fits f x) → HasValue x false n (2 ^ low f) → Held (prec f) n

-- two nearest roots are one
abbrev pub NearestUnique : Type 0
NearestUnique = (d p l x r s : ℕ) → Nearest d p l x r → Nearest d p l x s → r ≡ s

-- and so are two floats of the format that are nearest roots of one number
abbrev pub RootsUnique : Type 0
RootsUnique = (d p : ℕ) (f : Format) (x r s : Float) → T (fits f r) → T (fits f s) → Root d p f x r → Root d p f x s → r ≡ s

-- in every format both roots of what is finite and above zero are the nearest ones
abbrev pub RootsNearest : Type 0
RootsNearest = (f : Format) (x : Float) → T (fits f x) → T (positive x) → Root 2 (prec f) f x (Floats.sqrt f x) × Root 3 24 f x (cbrt f x)

-- the roots of all else: zeros and infinities keep their value, but the square root of a value below zero is not a number
pub record SpecialRoots (f : Format) : Type 0 where
  pub zeros : (s : Bool) (e : ℤ) → (sqrt_as_written f (fin s 0 e) ≡ fin s 0 e) × (cbrt f (fin s 0 e) ≡ fin s 0 e)
  pub infinities : (s : Bool) → (Floats.sqrt f (inf false) ≡ inf false) × (cbrt f (inf s) ≡ inf s)
  pub below_zero : (m : ℕ) (e : ℤ) → (Floats.sqrt f (fin true (suc m) e) ≡ nan) × (Floats.sqrt f (inf true) ≡ nan)
  pub not_numbers : (Floats.sqrt f nan ≡ nan) × (cbrt f nan ≡ nan)
  -- for every float of the format the library's root is the one that `zeros` speaks of
  pub library : (x : Float) → T (fits f x) → Floats.sqrt f x ≡ sqrt_as_written f x
  -- and at any zero it is the zero of that sign, written as the formats do
  pub library_zeros : (s : Bool) (e : ℤ) → Floats.sqrt f (fin s 0 e) ≡ fin s 0 (pos 0)
