-- Names of streams, utilities, exchangers and branches.
use Rattle.std.specs.Prelude.{◌≡◌, ℕ, ◌-◌, ◌≤◌, ◌⊎◌, Bool, false, ◌||◌, ◌&&◌, ◌==◌, nat_le, List, [], ◌∷◌, ◌++◌, length, All, IsTrue, replicate, take, drop}
use Rattle.std.proofs.Common.{sym, ap, ◌∙◌, arith}
use Rattle.std.proofs.lemmas.List.{length-take-le, take-append-drop}
use Rattle.std.specs.Char.{is_ascii_alphanumeric}
use Rattle.std.specs.List.{list_all}

-- a letter, a digit, `_` or `-`
abbrev pub is_name_byte : ℕ → Bool
is_name_byte b = (is_ascii_alphanumeric b || (b == 95)) || (b == 45)

-- 1 to 16 such bytes, of which the first is a letter or a digit
abbrev pub IsName : List ℕ → Type 0
IsName [] = ⊥
IsName (b ∷ bs) = IsTrue (is_ascii_alphanumeric b) × All (λ x. IsTrue (is_name_byte x)) bs × (length bs ≤ 15)

-- a `.` and a name
abbrev pub IsDottedName : List ℕ → Type 0
IsDottedName [] = ⊥
IsDottedName (b ∷ bs) = (b ≡ 46) × IsName bs

-- the test of a name
unfoldable pub is_name : List ℕ → Bool
is_name [] = false
is_name (b ∷ bs) = is_ascii_alphanumeric b && list_all is_name_byte bs && nat_le (length bs) 15

-- what a `Name` can hold
abbrev pub IsAnyName : List ℕ → Type 0
IsAnyName bytes = IsName bytes ⊎ IsDottedName bytes

-- what a `Name` holds in place: its bytes, and zeros up to the capacity
pub record IsStored (bytes : List ℕ) (len : ℕ) : Type 0 where
  pub capacity : length bytes ≡ 17
  pub fits : len ≤ 17
  pub zeros : drop len bytes ≡ replicate (17 - len) 0
  pub grammar : IsAnyName (take len bytes)

-- the fields come back from the bytes
pub length-view : (bytes : List ℕ) (len : ℕ) → IsStored bytes len → length (take len bytes) ≡ len
length-view bytes len h = length-take-le len bytes (omega (arith, h.capacity, h.fits))

pub padded-view : (bytes : List ℕ) (len : ℕ) → IsStored bytes len
    → take len bytes ++ replicate (17 - length (take len bytes)) 0 ≡ bytes
padded-view bytes len h =
    ap (λ n. take len bytes ++ replicate (17 - n) 0) (length-view bytes len h)
    ∙ ap (λ zs. take len bytes ++ zs) (sym h.zeros) ∙ take-append-drop len bytes
