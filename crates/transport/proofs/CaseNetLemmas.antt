-- The net of a case serves all parts that stand alike.
use Rattle.transport.proofs.Words.{Case, IsInner, Part, PathsAreReaches, reach_between}
use Rattle.std.proofs.Common.{List, length, subst, subst₂, sym, ◌≡◌}
use Rattle.transport.specs.CaseNet.{IsCaseNet}
use Rattle.transport.specs.declared.case_net.CaseNet.{CaseNet}

-- the net of parts is that of others, of which there are as many and the same pairs reach
pub IsCaseNet-alike : (c : Case) (hot cold others other_colds : List Part) (net : CaseNet)
    → length others ≡ length hot → length other_colds ≡ length cold
    → reach_between c others other_colds ≡ reach_between c hot cold → IsCaseNet c hot cold net
    → IsCaseNet c others other_colds net
IsCaseNet-alike c hot cold others other_colds net hots colds reach h =
    let links = net.chains.net.links in
    record {
      inner = subst₂ (λ m n. IsInner m n net.chains.net) (sym hots) (sym colds) h.inner;
      few_nodes = h.few_nodes;
      few_links = h.few_links;
      paths = subst (PathsAreReaches (length others) (length other_colds) links) (sym reach)
          (subst₂ (λ m n. PathsAreReaches m n links (reach_between c hot cold)) (sym hots) (sym colds) h.paths);
    }
