-- Streams that are valid and sensible, as the designs have them.
use Rattle.std.proofs.Common.{All, List}
use Rattle.design_lines.proofs.Words.{AreSensible, AreStreams, AreStreams-IsComplete, Case, IsComplete, IsSensible, IsValidStream, Stream}

-- a valid stream that is not latent
pub record IsSensibleStream (s : Stream) : Type 0 where
  pub valid : IsValidStream s
  pub sensible : IsSensible s

-- the streams of a case that has no latent one
pub record AreSensibleStreams (streams : List Stream) : Type 0 where
  pub are : AreStreams streams
  pub each : All IsSensibleStream streams

-- a completed case that has no latent stream
pub record IsSensibleCase (case : Case) : Type 0 where
  pub complete : IsComplete case
  pub sensible : AreSensible case.streams

pub AreSensibleStreams-both : (streams : List Stream) → AreStreams streams → AreSensible streams
    → AreSensibleStreams streams
AreSensibleStreams-both streams are sensible =
    record { are = are; each = λ k d within. record { valid = are.each k d within; sensible = sensible k d within } }

pub IsSensibleCase-both : (case : Case) → IsComplete case → AreSensible case.streams → IsSensibleCase case
IsSensibleCase-both case complete sensible = record { complete = complete; sensible = sensible }

pub AreSensibleStreams-case : (case : Case) → IsSensibleCase case → AreSensibleStreams case.streams
AreSensibleStreams-case case is =
    AreSensibleStreams-both case.streams (AreStreams-IsComplete case is.complete) is.sensible
