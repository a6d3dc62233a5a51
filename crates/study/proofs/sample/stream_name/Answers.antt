use Rattle.std.proofs.Common.{None, Option, Some, ap, arith, inl, refl, subst, sym, ◌∙◌}
use Rattle.study.proofs.Words.{IsName, IsSome, SomeIff, decimal, ◌++◌}
use Rattle.study.proofs.SampleLemmas.{IsName-stream_name}
use Rattle.study.proofs.sample.stream_name.Goals as goal

IsSome-SomeIff : {X : Type 0} (o : Option X) (P : Type 0) (x : X) → SomeIff o P x → P → IsSome o
IsSome-SomeIff (Some y) P x h p = refl
IsSome-SomeIff None P x h p = absurd (h p)

pub unwrap-requires : goal.unwrap-requires
unwrap-requires c =
    let bytes = c.as_bytes.ensures.value ∙ c.in_ok-text.ensures.ok
    ∙ ap (λ l. l ++ decimal c.args.number) c.letter-letter.ensures in
    IsSome-SomeIff c.new.result _ _ c.new.ensures (inl (subst IsName (sym bytes) (IsName-stream_name c.args.side c.args.number (omega arith))))
