-- A stage of a stream: the stream is divided, its shares pass one exchanger each, and are joined again.
use Rattle.std.specs.Prelude.{ℕ, zero, suc, ◌+◌, ◌-◌, ◌*◌, List, [], ◌∷◌, ◌++◌, length}
use Rattle.networks.specs.declared.network.Line.{Line}
use Rattle.networks.specs.declared.network.Line.TheVariants as line
use Rattle.design_lines.specs.declared.stage.Share.{Share}

-- each share but the last is split off what is left of the branch `from`; new branches are numbered from `next` on
abbrev pub splits : ℕ → ℕ → List Share → List Line
splits next from [] = []
splits next from (s ∷ []) = []
splits next from (s ∷ t ∷ shares) = line.Split from next s.cp (next + 1) ∷ splits (next + 2) (next + 1) (t ∷ shares)

-- what is left for the last share
abbrev pub rest_branch : ℕ → ℕ → List Share → ℕ
rest_branch next from [] = from
rest_branch next from (s ∷ []) = from
rest_branch next from (s ∷ t ∷ shares) = rest_branch (next + 2) (next + 1) (t ∷ shares)

-- the branches of the shares
abbrev pub share_branches : ℕ → ℕ → List Share → List ℕ
share_branches next rest [] = []
share_branches next rest (s ∷ []) = rest ∷ []
share_branches next rest (s ∷ t ∷ shares) = next ∷ share_branches (next + 2) rest (t ∷ shares)

-- each branch is led through the exchanger of its share
abbrev pub passes : ℕ → List ℕ → List Share → List Line
passes to [] shares = []
passes to (branch ∷ branches) [] = []
passes to (branch ∷ branches) (s ∷ shares) = line.Pass branch s.exchanger to ∷ passes (to + 1) branches shares

-- a branch is mixed with the one numbered `second`, what comes out with the next one, and so on
abbrev pub mixes : ℕ → ℕ → ℕ → ℕ → List Line
mixes zero to first second = []
mixes (suc n) to first second = line.Mix first second to ∷ mixes n (to + 1) to (second + 1)

-- the first branch behind the splits
abbrev pub behind_splits : ℕ → List Share → ℕ
behind_splits next shares = next + 2 * (length shares - 1)

-- the lines of a stage, of one share or more
unfoldable pub stage_lines : ℕ → ℕ → List Share → List Line
stage_lines next from shares =
    splits next from shares
    ++ (passes (behind_splits next shares) (share_branches next (rest_branch next from shares) shares) shares
    ++ mixes (length shares - 1) (behind_splits next shares + length shares) (behind_splits next shares) (behind_splits next shares + 1))

-- its last branch, with the greatest number
abbrev pub stage_end : ℕ → List Share → ℕ
stage_end next shares = next + 4 * (length shares - 1)
