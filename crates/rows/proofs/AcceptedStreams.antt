-- A stream whose fields pass the checks of its row is valid.
use Rattle.rows.proofs.Tests.{passed-within}
use Rattle.rows.proofs.Words.{Decides-is_right_way, IsContribution, IsLatent, IsSensible, IsValidStream, Stream, is_flow_rate, is_load, is_name}
use Rattle.rows.proofs.Words.{is_right_way, is_temperature, passed-name}
use Rattle.std.proofs.Common.{pos, true, ◌≡◌, ◌⊎◌}

-- what a stream is whose row passes the checks
pub passed-sensible : (s : Stream) → is_flow_rate s.cp ≡ true → s.load ≡ pos 0
    → is_right_way s.side s.supply s.target ≡ true → IsSensible s
passed-sensible s cp load way =
    record { way = (Decides-is_right_way s.side s.supply s.target).0 way; cp = passed-within _ _ _ cp; load = load }

pub passed-latent : (s : Stream) → s.supply ≡ s.target → s.cp ≡ pos 0 → is_load s.load ≡ true → IsLatent s
passed-latent s level cp load = record { level = level; cp = cp; load = passed-within _ _ _ load }

pub stream-is_valid : (s : Stream) → is_name s.name ≡ true → is_temperature s.supply ≡ true
    → is_temperature s.target ≡ true → IsSensible s ⊎ IsLatent s
    → IsContribution s.contribution → IsValidStream s
stream-is_valid s name supply target heat contribution = record {
  name = passed-name s.name name;
  supply = passed-within _ _ _ supply;
  target = passed-within _ _ _ target;
  heat = heat;
  contribution = contribution;
}
