-- What the tests of the checks decide.
use Rattle.site_text.proofs.Words.{All-from_map, All-map, Decides-like, Decides-none, bytes_eq, is_among}
use Rattle.std.proofs.Common.{All, Decides, List, map, not, sym, ℕ, ◌≡◌, ◌≢◌}
use Rattle.std.specs.Cmp.Lexicographic.{bytes_decides}

-- a name that none of these has
pub Decides-is_among : {X : Type 0} (name_of : X → List ℕ) (xs : List X) (name : List ℕ)
    → Decides (not (is_among name_of xs name)) (All (λ other. other ≢ name) (map name_of xs))
unfolding is_among
Decides-is_among name_of xs name =
    Decides-like _ (All-map (λ (other : List ℕ). other ≢ name) name_of xs) (All-from_map (λ (other : List ℕ). other ≢ name) name_of xs)
    (Decides-none (λ x. bytes_eq name (name_of x)) (λ x. name_of x ≡ name) (λ x. Decides-like _ sym sym (bytes_decides name (name_of x))) xs)
