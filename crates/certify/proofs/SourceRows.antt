-- The rows of the table of sources, one after the other.
use Rattle.certify.proofs.Words.{ArePermissions, Bool, Case, HavePermits, IsSourceOf, Source, cases_lt, get_or-append, get_or-append_seam, source_index}
use Rattle.std.proofs.Common.{List, [], ap, arith, length, length-append, ℕ, ⊎_elim, ◌++◌, ◌+◌, ◌<◌, ◌∙◌, ◌∷◌, ◌≡◌}
use Rattle.stream_case.specs.declared.source.Source.TheVariants.{Stream as of_stream, Utility as of_utility}

-- a row more, of the one source with the next index
push : (c : Case) (rows : List (List Bool)) (row : List Bool) (source : Source)
    → ((hot : Source) → IsSourceOf c hot → source_index c hot ≡ length rows → hot ≡ source)
    → ArePermissions c c.forbids source row → HavePermits c rows → HavePermits c (rows ++ row ∷ [])
push c rows row source only is have hot of room =
    ⊎_elim (λ before. rw (get_or-append rows (row ∷ []) [] (source_index c hot) before) (have hot of before)) (λ past.
    let here : source_index c hot ≡ length rows = omega (arith, past, room, length-append rows (row ∷ [])) in
    rw (here, get_or-append_seam rows row [] []) (rw (only hot of here) is)) (cases_lt (source_index c hot) (length rows))

pub push_stream : (c : Case) (rows : List (List Bool)) (row : List Bool) (i : ℕ) → i < length c.streams
    → length rows ≡ i
    → ArePermissions c c.forbids (of_stream i) row → HavePermits c rows → HavePermits c (rows ++ row ∷ [])
push_stream c rows row i within count is = push c rows row (of_stream i) only is
  where
    only : (hot : Source) → IsSourceOf c hot → source_index c hot ≡ length rows → hot ≡ of_stream i
    only (of_stream j) of here = ap of_stream (here ∙ count)
    only (of_utility j) of here = absurd (omega (arith, here, count, within))

pub push_utility : (c : Case) (rows : List (List Bool)) (row : List Bool) (i : ℕ) → length rows ≡ length c.streams + i
    → ArePermissions c c.forbids (of_utility i) row → HavePermits c rows → HavePermits c (rows ++ row ∷ [])
push_utility c rows row i count is = push c rows row (of_utility i) only is
  where
    only : (hot : Source) → IsSourceOf c hot → source_index c hot ≡ length rows → hot ≡ of_utility i
    only (of_stream j) of here = absurd (omega (arith, here, count, of))
    only (of_utility j) of here =
        let same : j ≡ i = omega (arith, here, count) in
        ap of_utility same
