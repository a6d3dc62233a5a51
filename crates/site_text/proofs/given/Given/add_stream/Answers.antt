-- The last plant has the stream too.
use Rattle.site_text.proofs.Plants.{few_with, set_last, set_same, with_stream-none}
use Rattle.site_text.proofs.given.Given.add_stream.Goals.{in-Some+in_ok-push, in_default}
use Rattle.site_text.proofs.Words.{HaveFewStreams, false≢true, set, vec_len, with_stream}
use Rattle.std.proofs.Common.{ap, arith, length, refl, subst, suc, sym, ◌-◌, ◌<◌, ◌∙◌, ◌≡◌}
use Rattle.site_text.proofs.given.Given.add_stream.Goals as goal

pub invariant_of-self : goal.invariant_of-self
invariant_of-self c =
    let plants = c.self.inside.plants.items in
    let last = vec_len c.self.inside.plants - 1 in
    let plant = c.in-Some.plant.now in
    let same : record { name = plant.name; streams = c.push.new.self } ≡ plant
    = λ i. record { name = plant.name; streams = c.in_err-push.ensures.err i } in
    subst HaveFewStreams (sym (ap (set plants last) same ∙ set_same plants last plant c.in-Some.ensures.value)) c.self.invariant

-- the plants behind the call
plants_are : (c : goal.Joined-last_mut)
    → c.match-last_mut.self-inside.plants.items ≡ with_stream c.args.stream c.self.inside.plants.items
plants_are c =
    let plants = c.self.inside.plants.items in
    let last = vec_len c.self.inside.plants - 1 in
    elim c.match-last_mut.branch [
      | in-Some+in_ok-push w ↦
          let plant = w.in-Some.plant.now in
          let some = w.in-Some.ensures.variant.0 refl in
          let is_last : suc last ≡ length plants = omega (arith, some, c.self.inside.plants.ok.0) in
          ap (λ f. f.plants.items) w.self-inside-is
          ∙ ap (set plants last) (λ i. record { name = plant.name; streams = w.in_ok-push.ensures.ok i })
          ∙ set_last c.args.stream plants last plant is_last w.in-Some.ensures.value
      | in_default w ↦
          let none : 0 < length plants → ⊥
          = λ some. false≢true (w.in_default.ensures.variant.1 (omega (arith, some, c.self.inside.plants.ok.0))) in
          ap (λ f. f.plants.items) w.self-inside-is ∙ sym (with_stream-none c.args.stream plants none)
    ]

pub invariant_of-self-2 : goal.invariant_of-self-2
invariant_of-self-2 c = let room = rw (← c.self.view_is) at c.requires in
    subst HaveFewStreams (sym (plants_are c)) (few_with c.self.inside.plants.items c.args.stream c.self.invariant room)

pub returns : goal.returns
returns c =
    let contribution : c.match-last_mut.self-inside.contribution ≡ c.self.inside.contribution =
    elim c.match-last_mut.branch [ in-Some+in_ok-push w ↦ ap (λ f. f.contribution) w.self-inside-is | in_default w ↦ ap (λ f. f.contribution) w.self-inside-is ]
    in
    let mains : c.match-last_mut.self-inside.mains ≡ c.self.inside.mains =
    elim c.match-last_mut.branch [ in-Some+in_ok-push w ↦ ap (λ f. f.mains) w.self-inside-is | in_default w ↦ ap (λ f. f.mains) w.self-inside-is ] in
    rw (← c.self.view_is) (λ i. record { contribution = contribution i; plants = plants_are c i; mains = (mains i).items })
