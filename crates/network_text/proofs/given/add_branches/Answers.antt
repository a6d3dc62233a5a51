use Rattle.network_text.proofs.Tables.{first_new, second_new}
use Rattle.network_text.proofs.Words.{bytes_decides, keys_of, map-append, members}
use Rattle.std.proofs.Common.{List, [], ap, bytes_eq, ℕ, ◌∙◌, ◌∷◌}
use Rattle.network_text.proofs.given.add_branches.Goals as goal

pub add_branch-requires : goal.add_branch-requires
add_branch-requires c =
    first_new bytes_eq (λ a b. (bytes_decides a b).0) (keys_of c.args.branches.now.entries) c.args.names c.in-One.name []
    (ap members c.in-One.is) c.requires

pub add_branch-requires-in-Two : goal.add_branch-requires-in-Two
add_branch-requires-in-Two c =
    first_new bytes_eq (λ a b. (bytes_decides a b).0) (keys_of c.args.branches.now.entries) c.args.names c.in-Two.first
    (c.in-Two.second ∷ []) (ap members c.in-Two.is) c.requires

pub add_branch-requires-in-Two-2 : goal.add_branch-requires-in-Two-2
add_branch-requires-in-Two-2 c =
    let before = c.args.branches.now.entries in
    let keys = ap keys_of c.in_ok-add_branch-in-Two.ensures.added
    ∙ map-append (λ (e : List ℕ × ℕ). e.0) before ((c.in-Two.first, c.args.stream) ∷ []) in
    second_new bytes_eq (λ a b. (bytes_decides a b).0) (keys_of before)
    (keys_of c.add_branch-in-Two.new.branches.entries) c.args.names c.in-Two.first c.in-Two.second (ap members c.in-Two.is) c.requires keys
