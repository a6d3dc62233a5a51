use Rattle.vertical_design.proofs.Words.{AreBands, AreBetween, AreCuts, AreStreams-IsComplete, Band, IsSensibleCase-both, exchanges_between, length-utilities}
use Rattle.vertical_design.proofs.Words.{bands_of, sources_between}
use Rattle.std.proofs.Common.{List, arith, subst, sym, ℤ, ◌∙◌, ◌≡◌}
use Rattle.vertical_design.proofs.BandLimits.{AreBands-bands_of}
use Rattle.stream_case.specs.declared.source.Side.TheVariants as side
use Rattle.vertical_design.proofs.network.intervals_for.Goals as goal

same_cuts : (a b : List Band) (c : List ℤ) (x y : List Band) (z : List ℤ) → a ≡ x → b ≡ y → c ≡ z
    → AreCuts a b c → AreCuts x y z
same_cuts a b c x y z p q r are =
    subst (AreCuts x y) r (subst (λ t. AreCuts x t c) q (subst (λ s. AreCuts s b c) p are))

pub bands_of-requires-clause-streams : goal.bands_of-requires-clause-streams
bands_of-requires-clause-streams c = AreStreams-IsComplete c.args.case.now c.requires.complete

pub bands_of-requires-clause-few : goal.bands_of-requires-clause-few
bands_of-requires-clause-few c = omega (arith, length-utilities c.args.case.now c.requires.complete)

pub bands_of-requires-2-clause-streams : goal.bands_of-requires-2-clause-streams
bands_of-requires-2-clause-streams c = AreStreams-IsComplete c.args.case.now c.requires.complete

pub bands_of-requires-2-clause-few : goal.bands_of-requires-2-clause-few
bands_of-requires-2-clause-few c = omega (arith, length-utilities c.args.case.now c.requires.complete)

pub exchanges_between-requires : goal.exchanges_between-requires
exchanges_between-requires c =
    let case = c.args.case.now in
    let sensible = IsSensibleCase-both case c.requires.complete c.requires.sensible in
    record {
      hot =
          subst AreBands (sym (c.deref.ensures.value ∙ c.in_ok-hot.ensures))
          (AreBands-bands_of side.Hot case sensible c.requires.standard);
      cold =
          subst AreBands (sym (c.deref-2.ensures.value ∙ c.in_ok-cold.ensures))
          (AreBands-bands_of side.Cold case sensible c.requires.standard);
      cuts =
          same_cuts c.as_slice.result.now c.as_slice-2.result.now c.in_ok-cuts.cuts.items c.deref.result.now
          c.deref-2.result.now c.deref-3.result.now (c.as_slice.ensures.value ∙ sym c.deref.ensures.value)
          (c.as_slice-2.ensures.value ∙ sym c.deref-2.ensures.value) (sym c.deref-3.ensures.value) c.in_ok-cuts.ensures;
    }

pub returns : goal.returns
returns c =
    let case = c.args.case.now in
    let cuts = c.in_ok-cuts.cuts.items in
    let are = same_cuts c.as_slice.result.now c.as_slice-2.result.now cuts (bands_of side.Hot case)
    (bands_of side.Cold case) cuts (c.as_slice.ensures.value ∙ c.in_ok-hot.ensures)
    (c.as_slice-2.ensures.value ∙ c.in_ok-cold.ensures) (λ i. cuts) c.in_ok-cuts.ensures in
    let hot = c.deref.ensures.value ∙ c.in_ok-hot.ensures in
    let cold = c.deref-2.ensures.value ∙ c.in_ok-cold.ensures in
    let between : AreBetween case cuts c.in_ok-sources_between.field-0.items c.in_ok-sources_between-2.field-0.items
    c.in_ok-exchanges.exchanges.items
    =
    record {
      hot_is =
          c.in_ok-sources_between.ensures
          ∙ (λ i. sources_between ((c.deref-4.ensures.value ∙ c.in_ok-hot.ensures) i) (c.deref-5.ensures.value i));
      cold_is =
          c.in_ok-sources_between-2.ensures
          ∙ (λ i. sources_between ((c.deref-6.ensures.value ∙ c.in_ok-cold.ensures) i) (c.deref-7.ensures.value i));
      exchanges_are = c.in_ok-exchanges.ensures ∙ (λ i. exchanges_between (hot i) (cold i) (c.deref-3.ensures.value i));
    } in (cuts, are, between)
