-- What a name's bytes are worth in place.
use Rattle.std.proofs.Common.{List, [], arith, drop, get_or, inl, inr, length, length-append, length-drop, refl, replicate, subst, sym, ℕ, ◌++◌, ◌<◌, ◌∙◌, ◌∷◌}
use Rattle.std.proofs.Common.{◌≡◌, ◌≤◌}
use Rattle.std.proofs.Math.Seq.{drop-append_seam, take-append_seam}
use Rattle.stream_case.proofs.Words.{All, All-cons, Err, IsAnyName, IsAscii-from_all, IsDottedName, IsName, IsOk, IsStored, IsTrue, IsUtf8, IsUtf8-from_ascii}
use Rattle.stream_case.proofs.Words.{MatchResult, Ok, Result, drop-replicate, is_ascii_alphanumeric, is_name_byte, nat_tests}

pub length-IsName : (bytes : List ℕ) → IsName bytes → length bytes ≤ 16
length-IsName [] h = absurd h
length-IsName (b ∷ bs) h = omega (arith, h.2)

pub length-IsDottedName : (bytes : List ℕ) → IsDottedName bytes → length bytes ≤ 17
length-IsDottedName [] h = absurd h
length-IsDottedName (b ∷ bs) h = let short = length-IsName bs h.1 in omega arith

pub length-IsAnyName : (bytes : List ℕ) → IsAnyName bytes → length bytes ≤ 17
length-IsAnyName bytes (inl h) = let short = length-IsName bytes h in omega arith
length-IsAnyName bytes (inr h) = length-IsDottedName bytes h

-- bytes written to the front of zeros are stored
pub IsStored-made : (bytes front : List ℕ) → front ≡ bytes → IsAnyName bytes
    → IsStored (front ++ drop (length bytes) (replicate 17 0)) (length bytes)
IsStored-made bytes front e h =
    let fits : length bytes ≤ 17 = length-IsAnyName bytes h in
    let P : List ℕ → Type 0 = λ f. IsStored (f ++ drop (length bytes) (replicate 17 0)) (length bytes) in
    subst P (sym e) (record {
      capacity = omega (arith, length-append {A = ℕ}, length-drop {A = ℕ});
      fits = fits;
      zeros = drop-append_seam bytes _ ∙ drop-replicate (length bytes) 17 0;
      grammar = subst IsAnyName (sym (take-append_seam bytes _)) h;
    })

-- ---- names are ASCII

below_128 : (b : ℕ) → IsTrue (is_name_byte b) → b < 128
below_128 b h = grind (arith, nat_tests, h)

first_below_128 : (b : ℕ) → IsTrue (is_ascii_alphanumeric b) → b < 128
first_below_128 b h = grind (arith, nat_tests, h)

All-IsName : (bytes : List ℕ) → IsName bytes → All (λ b. b < 128) bytes
All-IsName [] h = absurd h
All-IsName (b ∷ bs) h =
    All-cons (λ x. x < 128) b bs (first_below_128 b h.0) (λ k d within. below_128 (get_or bs k d) (h.1 k d within))

All-IsAnyName : (bytes : List ℕ) → IsAnyName bytes → All (λ b. b < 128) bytes
All-IsAnyName bytes (inl h) = All-IsName bytes h
All-IsAnyName [] (inr h) = absurd h
All-IsAnyName (b ∷ bs) (inr h) = All-cons (λ x. x < 128) b bs (omega (arith, h.0)) (All-IsName bs h.1)

-- so they are texts
pub IsUtf8-IsAnyName : (bytes : List ℕ) → IsAnyName bytes → IsUtf8 bytes
IsUtf8-IsAnyName bytes h = IsUtf8-from_ascii bytes (IsAscii-from_all bytes (All-IsAnyName bytes h))

-- what is no error is a value
pub IsOk-of_match : {T E : Type 0} (r : Result T E) (P : T → Type 0) (Q : E → Type 0) → MatchResult r P Q
    → ((e : E) → Q e → ⊥) → IsOk r
IsOk-of_match (Ok x) P Q h never = refl
IsOk-of_match (Err e) P Q h never = absurd (never e h)
