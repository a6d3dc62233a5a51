use Rattle.std.proofs.Common.{All, Bool, List, arith, false, refl, subst, sym, true, ◌≡◌}
use Rattle.commands.proofs.Words.{Any, AreSensible, AreStreams-IsComplete, IsLatent, IsSensible, IsTrue, IsValidStream, Stream, ints, not, ◌↔◌}
use Rattle.commands.proofs.request.is_sensible.Goals as goal

-- a latent stream has a load
none_latent : (streams : List Stream) → AreSensible streams → Any IsLatent streams → ⊥
none_latent streams sensible (k, s, within, is, latent) =
    let own : IsSensible s = subst IsSensible is (sensible k s within) in
    omega (arith, ints, own.load, latent.load.from)

unless_latent : (streams : List Stream) (some : Bool) → (IsTrue some ↔ Any IsLatent streams)
    → (some ≡ false → AreSensible streams)
    → IsTrue (not some) ↔ AreSensible streams
unless_latent streams true latent sensible = (λ is. cc, λ are. absurd (none_latent streams are (latent.0 refl)))
unless_latent streams false latent sensible = (λ is. sensible refl, λ are. refl)

pub has_latent-requires : goal.has_latent-requires
has_latent-requires c =
    subst (All IsValidStream) (sym c.as_slice.ensures) (AreStreams-IsComplete c.args.case.now c.requires).each

pub returns : goal.returns
returns c =
    subst (λ streams. IsTrue (not c.has_latent.result) ↔ AreSensible streams) c.as_slice.ensures
    (unless_latent _ _ c.has_latent.ensures.latent c.has_latent.ensures.sensible)
