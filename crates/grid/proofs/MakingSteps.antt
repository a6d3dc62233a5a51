-- The parts of one more place, as the loop makes them.
use Rattle.grid.proofs.Words.{Part, Side, Stream, Utility, append-nil, covers, drop_all, drop_more, interval_parts, is_here, level_parts, made_parts}
use Rattle.grid.proofs.Words.{picked, pos, stands_at, stream_part, utility_part, ℤ}
use Rattle.std.proofs.Common.{List, [], ap, append_assoc, drop, get_or, length, sym, ℕ, ◌++◌, ◌+◌, ◌<◌, ◌∙◌, ◌∷◌, ◌≡◌, ◌≤◌}

module _ (streams : List Stream) (utilities : List Utility) (side : Side) (places : List ℤ) (i : ℕ) (g : ℤ)
    (within : i < length places) (is : get_or places i (pos 0) ≡ g) (now after_latent between : List Part)
    (latent : after_latent ≡ now ++ picked (stands_at side g) (stream_part g g) 0 streams)
    (level : between ≡ after_latent ++ picked (is_here side g) utility_part 0 utilities) where
  -- what was made at the place
  made-level : between ≡ now ++ level_parts streams utilities side g
  made-level =
      let latent_parts = picked (stands_at side g) (stream_part g g) 0 streams in
      let utility_parts = picked (is_here side g) utility_part 0 utilities in
      level ∙ ap (λ ps. ps ++ utility_parts) latent ∙ append_assoc now latent_parts utility_parts

  -- what is left from the next place on, after what was made at this one and below it
  made-more : (more next whole : List Part) → interval_parts streams utilities side g (drop (i + 1) places) ≡ more
      → now ++ made_parts streams utilities side (drop i places) ≡ whole → next ≡ between ++ more
      → next ++ made_parts streams utilities side (drop (i + 1) places) ≡ whole
  made-more more next whole on_interval so_far pushed =
      let here = level_parts streams utilities side g in
      let rest = made_parts streams utilities side (drop (i + 1) places) in
      let next_place = drop_more places i (pos 0) within ∙ ap (λ z. z ∷ drop (i + 1) places) is in
      let left = ap (made_parts streams utilities side) next_place ∙ ap (λ ps. here ++ (ps ++ rest)) on_interval in
      ap (λ ps. ps ++ rest) (pushed ∙ ap (λ ps. ps ++ more) made-level)
      ∙ append_assoc (now ++ here) more rest ∙ append_assoc now here (more ++ rest)
      ∙ ap (λ ps. now ++ ps) (sym left) ∙ so_far

  pub made-push : (low : ℤ) (next whole : List Part) → i + 1 < length places → get_or places (i + 1) (pos 0) ≡ low
      → now ++ made_parts streams utilities side (drop i places) ≡ whole
      → next ≡ between ++ picked (covers side g low) (stream_part g low) 0 streams
      → next ++ made_parts streams utilities side (drop (i + 1) places) ≡ whole
  made-push low next whole inside is_low so_far pushed =
      let next_places = drop_more places (i + 1) (pos 0) inside ∙ ap (λ z. z ∷ drop (i + 1 + 1) places) is_low in
      let interval_is = ap (interval_parts streams utilities side g) next_places in
      made-more (picked (covers side g low) (stream_part g low) 0 streams) next whole interval_is so_far pushed

  pub made-end : (next whole : List Part) → length places ≤ i + 1
      → now ++ made_parts streams utilities side (drop i places) ≡ whole → next ≡ between
      → next ++ made_parts streams utilities side (drop (i + 1) places) ≡ whole
  made-end next whole end so_far same =
      let interval_is = ap (interval_parts streams utilities side g) (drop_all (i + 1) places end) in
      made-more [] next whole interval_is so_far (same ∙ sym (append-nil between))
