-- A stream is ended exactly where an ended branch is of it.
use Rattle.network_audit.proofs.Words.{All-back, All-front, Branch, Line, ends, ends_stream, list_any, nat_tests}
use Rattle.network_audit.proofs.Words.{none-some, same_Some, stream_at}
use Rattle.std.proofs.Common.{All, Bool, Contains, List, Some, [], ap, arith, eq-eqb, false, flat_map, map, refl}
use Rattle.std.proofs.Common.{slice_get, subst, suc, true, zero, ℕ, ◌==◌, ◌||◌, ◌∙◌, ◌∷◌, ◌≡◌}
use Rattle.networks.specs.declared.network.Line.TheVariants as line

contains-here : (x : ℕ) (xs : List ℕ) → Contains (x ∷ xs) x
contains-here x xs = (0, omega arith, refl)

contains-later : (x y : ℕ) (xs : List ℕ) → Contains xs y → Contains (x ∷ xs) y
contains-later x y xs (k, within, is) = (suc k, omega (arith, within), is)

pub ended-contains : (branches : List Branch) (stream : ℕ) (lines : List Line)
    → list_any (ends_stream branches stream) lines ≡ true
    → Contains (map (stream_at branches) (flat_map ends lines)) stream
ended-contains branches stream [] some = cc some
ended-contains branches stream (line.End branch ∷ lines) some =
    by (stream_at branches branch == stream) refl (ended-contains branches stream lines) some
  where
    by : (b : Bool) → (stream_at branches branch == stream) ≡ b
        → (list_any (ends_stream branches stream) lines ≡ true → Contains (map (stream_at branches) (flat_map ends lines)) stream)
        → (b || list_any (ends_stream branches stream) lines) ≡ true
        → Contains (stream_at branches branch ∷ map (stream_at branches) (flat_map ends lines)) stream
    by true is later any =
        let same : stream_at branches branch ≡ stream = grind (arith, nat_tests, is) in
        subst (λ s. Contains (stream_at branches branch ∷ map (stream_at branches) (flat_map ends lines)) s) same
        (contains-here (stream_at branches branch) (map (stream_at branches) (flat_map ends lines)))
    by false is later any =
        contains-later (stream_at branches branch) stream (map (stream_at branches) (flat_map ends lines)) (later any)
ended-contains branches stream (other ∷ lines) some = ended-contains branches stream lines some

pub contains-ended : (branches : List Branch) (stream : ℕ) (lines : List Line)
    → Contains (map (stream_at branches) (flat_map ends lines)) stream
    → list_any (ends_stream branches stream) lines ≡ true
contains-ended branches stream [] (k, within, is) = absurd (omega (arith, within))
contains-ended branches stream (line.End branch ∷ lines) (zero, within, is) =
    ap (λ b. b || list_any (ends_stream branches stream) lines)
    (eq-eqb (stream_at branches branch) stream is)
contains-ended branches stream (line.End branch ∷ lines) (suc k, within, is) =
    ap (λ b. (stream_at branches branch == stream) || b) (contains-ended branches stream lines (k, omega (arith, within), is))
    ∙ by (stream_at branches branch == stream)
  where
    by : (b : Bool) → (b || true) ≡ true
    by true = refl
    by false = refl
contains-ended branches stream (other ∷ lines) some = contains-ended branches stream lines some

-- what holds of each ended branch holds of those of each line
pub each-ends : (P : ℕ → Type 0) (lines : List Line) (k : ℕ) (l : Line) → All P (flat_map ends lines)
    → slice_get lines k ≡ Some l → All P (ends l)
each-ends P [] k l all at = absurd (none-some l at)
each-ends P (m ∷ lines) zero l all at =
    subst (λ n. All P (ends n)) (same_Some m l at) (All-front P (ends m) (flat_map ends lines) all)
each-ends P (m ∷ lines) (suc k) l all at = each-ends P lines k l (All-back P (ends m) (flat_map ends lines) all) at
