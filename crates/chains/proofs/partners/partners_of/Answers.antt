-- One hot source more.
use Rattle.chains.proofs.Words.{All, All-push, ArePartners, HasPartners, Partners, map-append, take_all, take_more}
use Rattle.std.proofs.Common.{[], ap, get_or, map, subst, sym, ◌++◌, ◌∙◌, ◌∷◌}
use Rattle.chains.proofs.partners.partners_of.Goals as goal
use Rattle.stream_case.specs.declared.source.Source.TheVariants.{Stream as of_stream}

pub loop-source-preserved : goal.loop-source-preserved
loop-source-preserved c =
    let case = c.args.case.now in
    let hot = c.args.hot.now in
    let i = c.loop-source.source-index in
    let table = c.loop-source.table.items in
    let grown = c.in_ok-push.ensures.items in
    let source = λ (p : Partners). p.source in
    let next : Partners = record { source = get_or hot i (of_stream 0); allowed = c.in_ok-allowed.allowed } in
    record {
      sources =
          ap (map source) grown ∙ map-append source table (next ∷ [])
          ∙ ap (λ xs. xs ++ next.source ∷ []) c.loop-source.invariant.sources
          ∙ sym (take_more hot i (of_stream 0) c.loop-source-test.true);
      each =
          let each = All-push (HasPartners case) table next c.loop-source.invariant.each c.in_ok-allowed.ensures in
          subst (All (HasPartners case)) (sym grown) each;
    }

pub returns : goal.returns
returns c =
    let all = take_all c.loop-source.source-index c.args.hot.now c.loop-source-test.false in
    subst (λ hot. ArePartners c.args.case.now hot c.loop-source.table.items) all c.loop-source.invariant
