-- What the tests of the checks decide.
use Rattle.case_text.proofs.Words.{Case, Decides-and, Decides-like, Decides-none, Decides-not, Forbid, Given, Side, Source}
use Rattle.case_text.proofs.Words.{bytes_decides, bytes_eq, case_of, codes, is_forbidden, is_reserved_from, is_source, is_taken, names_of}
use Rattle.case_text.proofs.Words.{is_side-true, own_side, same_source, same_source-same, same_source-true, side_of, source_at, source_named}
use Rattle.std.proofs.Common.{All, Decides, List, None, Option, Some, ap, not, refl, sym, true, ℕ, ◌&&◌, ◌∙◌, ◌≡◌, ◌≢◌}
use Rattle.stream_case.specs.declared.source.Side.TheVariants as side

-- ---- names

-- a name that no source has
pub Decides-is_taken : (c : Case) (name : List ℕ)
    → Decides (not (is_taken c name)) (All (λ other. other ≢ name) (names_of c))
unfolding is_taken
Decides-is_taken c name =
    Decides-none (bytes_eq name) (λ other. other ≡ name) (λ other. Decides-like _ sym sym (bytes_decides name other)) (names_of c)

-- a utility of this side may have the name
abbrev pub IsRightNameOf : Side → List ℕ → Type 0
IsRightNameOf of name = (name ≡ codes "HOT" → of ≡ side.Hot) × (name ≡ codes "COLD" → of ≡ side.Cold)

pub Decides-is_reserved_from : (of : Side) (name : List ℕ)
    → Decides (not (is_reserved_from of name)) (IsRightNameOf of name)
unfolding is_reserved_from
Decides-is_reserved_from side.Hot name =
    Decides-like _ (λ other. (λ e. refl, λ e. absurd (other e))) (λ (hot, cold) e. cc (cold e)) (Decides-not _ (bytes_decides name (codes "COLD")))
Decides-is_reserved_from side.Cold name =
    Decides-like _ (λ other. (λ e. absurd (other e), λ e. refl)) (λ (hot, cold) e. cc (hot e)) (Decides-not _ (bytes_decides name (codes "HOT")))

-- ---- sources

-- a source of this side has the name
pub source_on : (of : Side) (given : Given) (name : List ℕ) → is_source of (case_of given) name ≡ true
    → side_of (case_of given) (source_at given name) ≡ Some of
unfolding is_source
source_on of given name is = by (source_named (case_of given) name) refl
  where
    by : (o : Option Source) → source_named (case_of given) name ≡ o
        → side_of (case_of given) (source_at given name) ≡ Some of
    by None named = cc (rw named at is)
    by (Some s) named = rw named (is_side-true of (side_of (case_of given) s) (rw named at is))

pub is_source-named : (of : Side) (c : Case) (name : List ℕ) (s : Source) → source_named c name ≡ Some s
    → side_of c s ≡ Some of → is_source of c name ≡ true
unfolding is_source
is_source-named of c name s named on = rw (named, on) (own_side of)

-- ---- forbidden matches

same_forbid : (f : Forbid) (hot cold : Source)
    → Decides (same_source f.hot hot && same_source f.cold cold) (f ≡ record { hot = hot; cold = cold })
same_forbid f hot cold =
    Decides-like _ (λ (h, c). λ i. record { hot = h i; cold = c i }) (λ e. (ap (λ g. g.hot) e, ap (λ g. g.cold) e))
    (Decides-and _ _ (Decides-same_source f.hot hot) (Decides-same_source f.cold cold))
  where
    Decides-same_source : (a b : Source) → Decides (same_source a b) (a ≡ b)
    Decides-same_source a b = (same_source-true a b, λ e. ap (same_source a) (sym e) ∙ same_source-same a)

pub Decides-is_forbidden : (forbids : List Forbid) (hot cold : Source)
    → Decides (not (is_forbidden forbids hot cold)) (All (λ f. f ≢ record { hot = hot; cold = cold }) forbids)
Decides-is_forbidden forbids hot cold = Decides-none (λ (f : Forbid). same_source f.hot hot && same_source f.cold cold)
    (λ f. f ≡ record { hot = hot; cold = cold }) (λ f. same_forbid f hot cold) forbids
