-- A stream of the side adds its two ends.
use Rattle.curves.proofs.CurveLemmas.{temperatures_of-more}
use Rattle.curves.proofs.composite.temperatures_of.Goals.{else-is_on, then-is_on+in_ok-push+in_ok-push-2}
use Rattle.std.proofs.Common.{Bool, FitsSigned, [], ap, append-nil, append_assoc, if◌then◌else◌, rules, sym, w32, ◌∙◌, ◌∷◌}
use Rattle.curves.proofs.Words.{to_z-of_z}
use Rattle.curves.proofs.composite.temperatures_of.Goals as goal

pub loop-stream-preserved : goal.loop-stream-preserved
loop-stream-preserved c =
    let s = c.stream-item.result in
    let before = c.loop-stream.ends.items in
    let so_far = c.loop-stream.invariant in
    let step = temperatures_of-more c.args.side c.args.streams.now c.loop-stream.stream-index s c.loop-stream-test.true c.stream-item.is in
    let ends = λ (b : Bool). if b then s.supply ∷ s.target ∷ [] else [] in
    elim c.if-is_on.branch [
      | then-is_on+in_ok-push+in_ok-push-2 w ↦
          let supply_fits : FitsSigned w32 s.supply = search rules in
          let target_fits : FitsSigned w32 s.target = search rules in
          let supply = to_z-of_z w32 s.supply supply_fits in
          let target = to_z-of_z w32 s.target target_fits in
          let added = ap ends (sym c.is_on.ensures ∙ w.if-is_on.true) in
          let first = w.in_ok-push.ensures.items in
          let second = w.in_ok-push-2.ensures.items in
          let joined = append_assoc before (s.supply ∷ []) (s.target ∷ []) in
          let same = ap (λ v. v.items) w.ends-is in
          cc
      | else-is_on w ↦
          let added = ap ends (sym c.is_on.ensures ∙ w.if-is_on.false) in
          let same = ap (λ v. v.items) w.ends-is in
          let none = append-nil before in
          cc
    ]
