-- The table of the parts of a side: the first part with a span keeps its index.
use Rattle.certify.proofs.Words.{Case, Decides-int_eq, IndexMap, IsTableOf, IsWithSpan, Part, Span, Updates, and_from, and_parts, blank, both_ways}
use Rattle.certify.proofs.Words.{bytes_decides, false≢true, index_in, index_of, is_span_of, length-take-le, nat_tests, option_or, position_or_len}
use Rattle.certify.proofs.Words.{bytes_of_parts, bytes_of_span, flat_map, flat_map_more, position_or_len_push, prefix_len-le-length, same_span, source_name, span_of, take_more, true≢false}
use Rattle.std.proofs.Common.{Bool, List, None, Option, Some, [], ap, ap₂, arith, cond, eqb, false, get_or, is_some, length, length-append, nat_lt, position}
use Rattle.std.proofs.Common.{refl, sym, take, true, ℕ, ◌++◌, ◌+◌, ◌<◌, ◌∙◌, ◌∷◌, ◌≡◌, ◌≤◌}

-- ---- spans

same_as : (s t : Span) → same_span s t ≡ true → s ≡ t
same_as s t same =
    let outer = and_parts _ _ same in
    let inner = and_parts _ _ outer.1 in
    let name = (bytes_decides s.name t.name).0 outer.0 in
    let high = (Decides-int_eq s.high t.high).0 inner.0 in
    let low = (Decides-int_eq s.low t.low).0 inner.1 in
    λ i. record { name = name i; high = high i; low = low i }

same_itself : (s : Span) → same_span s s ≡ true
same_itself s =
    and_from _ _ ((bytes_decides s.name s.name).1 refl) (and_from _ _ ((Decides-int_eq s.high s.high).1 refl) ((Decides-int_eq s.low s.low).1 refl))

pub named_as : (c : Case) (s : Span) (p : Part) → is_span_of c s p ≡ true → s ≡ span_of c p
named_as c s p same =
    let outer = and_parts _ _ same in
    let inner = and_parts _ _ outer.0 in
    let name = (bytes_decides s.name (source_name c p.source)).0 outer.1 in
    let high = (Decides-int_eq s.high p.high).0 inner.0 in
    let low = (Decides-int_eq s.low p.low).0 inner.1 in
    λ i. record { name = name i; high = high i; low = low i }

pub names_itself : (c : Case) (p : Part) → is_span_of c (span_of c p) p ≡ true
names_itself c p =
    and_from _ _ (and_from _ _ ((Decides-int_eq p.high p.high).1 refl) ((Decides-int_eq p.low p.low).1 refl))
    ((bytes_decides (source_name c p.source) (source_name c p.source)).1 refl)

-- a span names a part exactly where it is the part's span
named_where_same : (c : Case) (s : Span) (p : Part) → same_span (span_of c p) s ≡ is_span_of c s p
named_where_same c s p =
    both_ways _ _ (λ e. ap (λ t. is_span_of c t p) (sym (same_as (span_of c p) s e)) ∙ names_itself c p)
    (λ e. ap (same_span (span_of c p)) (named_as c s p e) ∙ same_itself (span_of c p))

-- ---- one span more

module _ {S : Type 0} (own : Span) (index : ℕ) where
  -- a span that is there keeps its index
  pub kept : (table : IndexMap Span ℕ S) → is_some (index_in table own) ≡ true → IsWithSpan own index table table
  kept table there s = by (index_in table s) (same_span own s) refl refl
    where
      by : (o : Option ℕ) (b : Bool) → index_in table s ≡ o → same_span own s ≡ b
          → o ≡ option_or o (cond b (Some index) None)
      by (Some i) b found e = refl
      by None false missing e = refl
      by None true missing e =
          absurd (true≢false (sym there ∙ ap (λ t. is_some (index_in table t)) (same_as own s e) ∙ ap is_some missing))

  -- a new one has the index that it is given
  pub added : (old new : IndexMap Span ℕ S) → is_some (index_in old own) ≡ false
      → Updates same_span old new own (Some index) → IsWithSpan own index old new
  added old new missing updates s = updates.0 s ∙ by (index_in old s) (same_span own s) refl refl
    where
      by : (o : Option ℕ) (b : Bool) → index_in old s ≡ o → same_span own s ≡ b
          → cond b (Some index) o ≡ option_or o (cond b (Some index) None)
      by None b none e = refl
      by (Some i) false found e = refl
      by (Some i) true found e =
          absurd (false≢true (sym missing ∙ ap (λ t. is_some (index_in old t)) (same_as own s e) ∙ ap is_some found))

-- ---- what the key of a table is drawn from

-- the bytes of one part more, at its end
pub bytes_of_parts-more : (c : Case) (parts : List Part) (i : ℕ) (s : Span) → i < length parts
    → s ≡ span_of c (get_or parts i blank)
    → bytes_of_parts c (take i parts) ++ bytes_of_span s ≡ bytes_of_parts c (take (i + 1) parts)
unfolding bytes_of_parts
bytes_of_parts-more c parts i s within is =
    let bytes : Part → List ℕ = λ p. bytes_of_span (span_of c p) in
    let last = flat_map_more bytes [] (take i parts) (get_or parts i blank) in
    ap (λ t. flat_map bytes (take i parts) ++ bytes_of_span t) is ∙ last
    ∙ ap (flat_map bytes) (sym (take_more parts i blank within))

-- ---- one part more

-- the first place that passes in a list with one item more
position-push : {X : Type 0} (p : X → Bool) (xs : List X) (y : X)
    → position p (xs ++ y ∷ []) ≡ option_or (position p xs) (cond (p y) (Some (length xs)) None)
position-push p xs y =
    ap₂ (λ n m. cond (nat_lt n m) (Some n) None) (position_or_len_push p xs y) (length-append xs (y ∷ []))
    ∙ by (position_or_len p xs) (length xs) (p y) (nat_lt (position_or_len p xs) (length xs)) (prefix_len-le-length _ xs) refl
  where
    by : (n l : ℕ) (b less : Bool) → n ≤ l → nat_lt n l ≡ less
        → cond (nat_lt (cond (eqb n l) (l + cond b 0 1) n) (l + 1)) (Some (cond (eqb n l) (l + cond b 0 1) n)) None
        ≡ option_or (cond less (Some n) None) (cond b (Some l) None)
    by n l b less most is = grind (arith, nat_tests, most, is)

pub one_more_part : {S : Type 0} (c : Case) (parts : List Part) (i : ℕ) (own : Span) (old new : IndexMap Span ℕ S)
    → i < length parts
    → own ≡ span_of c (get_or parts i blank) → IsTableOf c (take i parts) old → IsWithSpan own i old new
    → IsTableOf c (take (i + 1) parts) new
one_more_part c parts i own old new within is before new_is s =
    let p = get_or parts i blank in
    let count : length (take i parts) ≡ i = length-take-le i parts (omega (arith, within)) in
    let same = ap (λ t. same_span t s) is ∙ named_where_same c s p in
    let here = ap (λ b. cond b (Some i) None) same ∙ ap (λ n. cond (is_span_of c s p) (Some n) None) (sym count) in
    let more = ap (λ ps. index_of c ps s) (take_more parts i blank within) in
    new_is s ∙ ap₂ option_or (before s) here ∙ sym (more ∙ position-push (is_span_of c s) (take i parts) p)
