use Rattle.pieces.proofs.Words.{Course, IsTrue, Share, Side, enumerate_from, false≢true, filter_map, get_or_default, lt-ltb, nat_lt, on_the_way}
use Rattle.pieces.proofs.Words.{option_map_or, same_source, share_at, shares_of, slice_get-get_or, stage_of, take_all, the_type, true_same}
use Rattle.pieces.proofs.PieceStages.{filter_map-way, kept-more, kept-skip, own-shares}
use Rattle.pieces.proofs.courses.course_of.Goals.{else-eq, else-not-is_empty, then-eq, then-not-is_empty+in_ok-push}
use Rattle.std.proofs.Common.{Bool, List, None, Some, [], ap, arith, false, get_or, if◌then◌else◌, length, refl, rules, sym, true, ◌&&◌, ◌++◌, ◌∙◌, ◌∷◌, ◌≡◌}
use Rattle.pieces.proofs.courses.course_of.Goals as goal
use Rattle.stream_case.specs.declared.source.Side.TheVariants as side
use Rattle.stream_case.specs.declared.source.Source.TheVariants as source

pub loop-index-preserved-then-not-is_stream : goal.loop-index-preserved-then-not-is_stream
loop-index-preserved-then-not-is_stream c =
    let sources = c.args.sources.now in
    let index = c.loop-index.index in
    let a = get_or sources index (source.Stream 0) in
    let shares = shares_of c.args.side index c.args.exchanges.now in
    let other : same_source a (source.Stream c.args.stream) ≡ false
    = sym c.is_stream.ensures ∙ c.if-not-is_stream.true in
    let here = get_or_default sources index (source.Stream 0) a c.loop-index-test.true in
    let nothing = ap (λ b. if b && nat_lt 0 (length shares) then Some shares else None) other in
    let skipped = kept-skip (stage_of c.args.side c.args.exchanges.now c.args.stream) sources index a
    c.loop-index-test.true here nothing in
    c.loop-index.invariant ∙ sym skipped

some_share : (empty : Bool) (shares : List Share) → empty ≡ false → (shares ≡ [] → IsTrue empty)
    → nat_lt 0 (length shares) ≡ true
some_share empty [] is none = absurd (false≢true (sym is ∙ none refl))
some_share empty (s ∷ shares) is none = lt-ltb 0 (length (s ∷ shares)) (omega arith)

pub loop-index-preserved : goal.loop-index-preserved
loop-index-preserved c =
    let sources = c.args.sources.now in
    let index = c.loop-index.index in
    let stage = stage_of c.args.side c.args.exchanges.now c.args.stream in
    let a = get_or sources index (source.Stream 0) in
    let here = get_or_default sources index (source.Stream 0) a c.loop-index-test.true in
    let shares = shares_of c.args.side index c.args.exchanges.now in
    let own : same_source a (source.Stream c.args.stream) ≡ true = sym c.is_stream.ensures ∙ c.if-not-is_stream.false in
    let of_own = ap (λ o. option_map_or (λ s. same_source s (source.Stream c.args.stream)) o false)
    (slice_get-get_or sources index (source.Stream 0) c.loop-index-test.true) ∙ own in
    let are : c.in_ok-shares.shares ≡ shares
    = c.in_ok-shares.ensures ∙ ap (filter_map (share_at index)) (c.as_slice.ensures.value ∙ c.in_ok-own.ensures)
    ∙ own-shares c.args.side sources c.args.stream index of_own c.args.exchanges.now in
    let is_stage : stage (index, a) ≡ (if nat_lt 0 (length shares) then Some shares else None) =
    ap (λ b. if b && nat_lt 0 (length shares) then Some shares else None) own in
    elim c.if-not-is_empty.branch [
      | then-not-is_empty+in_ok-push w ↦
          let some = some_share c.is_empty.result c.in_ok-shares.shares w.if-not-is_empty.true c.is_empty.ensures.1 in
          let used : nat_lt 0 (length shares) ≡ true
          = ap (λ (ss : List Share). nat_lt 0 (length ss)) (sym are) ∙ some in
          let used_here = is_stage ∙ ap (λ b. if b then Some shares else None) used in
          let one_more = kept-more stage sources index a c.loop-index-test.true here shares used_here in
          (λ i. (w.stages-is i).items) ∙ w.in_ok-push.ensures.items ∙ (λ i. c.loop-index.invariant i ++ are i ∷ [])
          ∙ sym one_more
      | else-not-is_empty w ↦
          let none : shares ≡ [] = sym are ∙ c.is_empty.ensures.0 w.if-not-is_empty.false in
          let no_stage = is_stage ∙ ap (λ (ss : List Share). if nat_lt 0 (length ss) then Some ss else None) none in
          (λ i. (w.stages-is i).items) ∙ c.loop-index.invariant
          ∙ sym (kept-skip stage sources index a c.loop-index-test.true here no_stage)
    ]

-- a cold stream goes up
turned : (c : goal.After-drop-own-2) → c.if-eq.stages.items ≡ on_the_way c.args.side c.loop-index.stages.items
turned c = elim c.if-eq.branch [
  | then-eq w ↦
      let cold : c.args.side ≡ side.Cold = search (rules, w.if-eq.true, c.eq.ensures) in
      (λ i. (w.stages-is i).items) ∙ w.reverse.ensures.items
      ∙ ap (λ d. on_the_way d c.loop-index.stages.items) (sym cold)
  | else-eq w ↦
      (λ i. (w.stages-is i).items)
      ∙ as_listed c.args.side c.loop-index.stages.items (λ cold.
      false≢true (sym w.if-eq.false ∙ c.eq.ensures ∙ true_same the_type c.args.side side.Cold cold))
]
  where
    as_listed : (of : Side) (stages : Course) → (of ≡ side.Cold → ⊥) → stages ≡ on_the_way of stages
    as_listed side.Hot stages other = refl
    as_listed side.Cold stages other = absurd (other refl)

pub returns : goal.returns
returns c =
    let stage = stage_of c.args.side c.args.exchanges.now c.args.stream in
    let whole = take_all c.loop-index.index c.args.sources.now c.loop-index-test.false in
    let all = ap (λ ss. filter_map stage (enumerate_from 0 ss)) whole in
    c.from_vec.ensures ∙ turned c ∙ ap (on_the_way c.args.side) (c.loop-index.invariant ∙ all)
    ∙ sym (filter_map-way stage c.args.side (enumerate_from 0 c.args.sources.now))
