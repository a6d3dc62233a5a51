-- The text of a heat flow or of a cut is that of the report that it makes.
use Rattle.reports.proofs.Words.{All-head, All-tail, Case, Cold, Cut, CutKind, Demand, HaveParts, Hot, Part, Parts, Prices, Side, Source, Span, Statement}
use Rattle.reports.proofs.Words.{Stream, Supply, Transfer, Utility, blank, case_names, codes, cut_line, cut_report, fields_text, flat_map}
use Rattle.reports.proofs.Words.{flat_map-append, flow_report, flow_text, line, made_from, member_line, move_line, move_of, named_at, option_map_or, own_parts}
use Rattle.reports.proofs.Words.{part_at, part_text, price_at, price_line, price_word, priced_by, signed_decimal, slice_get-get_or}
use Rattle.reports.proofs.Words.{source_name, span_of, statement_text, stuck_text, texts_from, use_line, use_of}
use Rattle.certify.specs.Printed.{cost_statement, cut_statement, move_statement, part_statement, priced_statement, report_text, use_statement}
use Rattle.std.proofs.Common.{All, List, [], ap, append_assoc, ap₂, get_or, length, map, pos, refl, suc, sym, ℕ, ℤ, ◌++◌, ◌<◌, ◌∙◌, ◌∷◌, ◌≡◌}
use Rattle.stream_case.proofs.CaseLemmas.{name_at}
use Rattle.stream_case.specs.Case.{source_name as name_of}
use Rattle.stream_case.specs.declared.source.Source.TheVariants.{Stream as of_stream}
use Rattle.stream_case.specs.declared.source.Source.TheVariants.{Utility as of_utility}

-- ---- lists

texts_made : {X Y : Type 0} (f : ℕ → X → List ℕ) (statement : Y → Statement) (g : ℕ → X → Y) (n : ℕ) (xs : List X)
    → ((i : ℕ) (x : X) → f i x ≡ statement_text (statement (g i x)))
    → texts_from f n xs ≡ flat_map statement_text (map statement (made_from g n xs))
texts_made f statement g n [] same = refl
texts_made f statement g n (x ∷ xs) same = ap₂ ◌++◌ (same n x) (texts_made f statement g (suc n) xs same)

texts_each : {X Y : Type 0} (f : X → List ℕ) (statement : Y → Statement) (g : X → Y) (xs : List X)
    → All (λ x. f x ≡ statement_text (statement (g x))) xs
    → flat_map f xs ≡ flat_map statement_text (map statement (map g xs))
texts_each f statement g [] same = refl
texts_each f statement g (x ∷ xs) same =
    ap₂ ◌++◌ (All-head (λ y. f y ≡ statement_text (statement (g y))) x xs same)
    (texts_each f statement g xs (All-tail (λ y. f y ≡ statement_text (statement (g y))) x xs same))

-- ---- parts

own_name : (c : Case) (source : Source) → source_name (case_names c) source ≡ name_of c source
own_name c (of_stream i) = sym (name_at (λ (s : Stream). s.name) c.streams i)
own_name c (of_utility i) = sym (name_at (λ (u : Utility). u.name) c.utilities i)

-- a part before more text
span_text : Span → List ℕ → List ℕ
span_text s rest = s.name ++ 32 ∷ (signed_decimal s.high ++ 32 ∷ (signed_decimal s.low ++ rest))

part_before : (c : Case) (p : Part) (rest : List ℕ) → part_text (case_names c) p ++ rest ≡ span_text (span_of c p) rest
unfolding span_text
part_before c p rest =
    append_assoc (source_name (case_names c) p.source) (32 ∷ (signed_decimal p.high ++ 32 ∷ signed_decimal p.low)) rest
    ∙ ap (λ t. source_name (case_names c) p.source ++ 32 ∷ t) (append_assoc (signed_decimal p.high) (32 ∷ signed_decimal p.low) rest)
    ∙ ap (λ name. name ++ 32 ∷ (signed_decimal p.high ++ 32 ∷ (signed_decimal p.low ++ rest))) (own_name c p.source)

named_before : (c : Case) (parts : List Part) (i : ℕ) (rest : List ℕ) → i < length parts
    → part_at (case_names c) parts i ++ rest ≡ span_text (named_at c parts i) rest
named_before c parts i rest within =
    let at = slice_get-get_or parts i blank within in
    ap (λ o. option_map_or (part_text (case_names c)) o [] ++ rest) at
    ∙ part_before c (get_or parts i blank) rest
    ∙ sym (ap (λ o. span_text (option_map_or (span_of c) o (record { name = []; high = pos 0; low = pos 0 })) rest) at)

-- ---- lines

cost_text : (cost : ℤ) → line (codes "cost") cost ≡ statement_text (cost_statement cost)
unfolding fields_text
cost_text cost = refl

use_text : (parts : Parts) (ts : List Transfer) (i : ℕ) (u : Utility)
    → use_line parts ts i u ≡ statement_text (use_statement (use_of parts.hot parts.cold ts i u))
unfolding fields_text
use_text parts ts i u = refl

move_text : (c : Case) (parts : Parts) (t : Transfer) → t.hot < length parts.hot → t.cold < length parts.cold
    → move_line (case_names c) parts t ≡ statement_text (move_statement (move_of c parts.hot parts.cold t))
unfolding fields_text span_text
move_text c parts t is_hot is_cold =
    let names = case_names c in
    let end = 32 ∷ (signed_decimal t.heat ++ 10 ∷ []) in
    ap (λ text. codes "move " ++ text)
    (append_assoc (part_at names parts.hot t.hot) (32 ∷ part_at names parts.cold t.cold) end
    ∙ ap (λ rest. part_at names parts.hot t.hot ++ 32 ∷ rest) (named_before c parts.cold t.cold end is_cold)
    ∙ named_before c parts.hot t.hot (32 ∷ span_text (named_at c parts.cold t.cold) end) is_hot)

price_text : (c : Case) (side : Side) (price : ℤ) (p : Part)
    → price_line (case_names c) side price p
    ≡ statement_text (priced_statement (price_word side) (record { part = span_of c p; price = price }))
unfolding fields_text span_text
price_text c Hot price p = ap (λ text. codes "give " ++ text) (part_before c p (32 ∷ (signed_decimal price ++ 10 ∷ [])))
price_text c Cold price p =
    ap (λ text. codes "take " ++ text) (part_before c p (32 ∷ (signed_decimal price ++ 10 ∷ [])))

member_text : (c : Case) (parts : List Part) (i : ℕ) → i < length parts
    → member_line (case_names c) parts i ≡ statement_text (part_statement (named_at c parts i))
unfolding fields_text span_text
member_text c parts i within = ap (λ text. codes "part " ++ text) (named_before c parts i (10 ∷ []) within)

kind_line_text : (kind : CutKind) (need offer : ℤ) (parts : List ℕ)
    → cut_line (record { kind = kind; parts = parts; need = need; offer = offer })
    ≡ statement_text (cut_statement kind need offer)
unfolding fields_text
kind_line_text Demand need offer parts = refl
kind_line_text Supply need offer parts = refl

-- ---- the texts

in_a_row : (a b c d e : List ℕ) → (((a ++ b) ++ c) ++ d) ++ e ≡ (a ++ b) ++ ((c ++ d) ++ e)
in_a_row a b c d e =
    append_assoc ((a ++ b) ++ c) d e ∙ append_assoc (a ++ b) c (d ++ e)
    ∙ ap (λ t. (a ++ b) ++ t) (sym (append_assoc c d e))

pub flow-text : (c : Case) (parts : Parts) (ts : List Transfer) (prices : Prices) (cost : ℤ)
    → HaveParts Hot parts.hot ts → HaveParts Cold parts.cold ts
    → flow_text c parts ts prices cost ≡ report_text (flow_report c parts.hot parts.cold ts prices.hot prices.cold cost)
flow-text c parts ts prices cost hots colds =
    let names = case_names c in
    let st = statement_text in
    let uses = map use_statement (made_from (use_of parts.hot parts.cold ts) 0 c.utilities) in
    let moves = map move_statement (map (move_of c parts.hot parts.cold) ts) in
    let gives = map (priced_statement (codes "give")) (made_from (priced_by c prices.hot) 0 parts.hot) in
    let takes = map (priced_statement (codes "take")) (made_from (priced_by c prices.cold) 0 parts.cold) in
    let uses_text = texts_made (use_line parts ts) use_statement (use_of parts.hot parts.cold ts) 0 c.utilities (use_text parts ts) in
    let moves_text = texts_each (move_line names parts) move_statement (move_of c parts.hot parts.cold) ts
    (λ k d within. move_text c parts (get_or ts k d) (hots k d within) (colds k d within)) in
    let gives_text = texts_made (λ i p. price_line names Hot (price_at prices.hot i) p) (priced_statement (codes "give")) (priced_by c prices.hot) 0
    parts.hot (λ i p. price_text c Hot (price_at prices.hot i) p) in
    let takes_text = texts_made (λ i p. price_line names Cold (price_at prices.cold i) p) (priced_statement (codes "take")) (priced_by c prices.cold) 0
    parts.cold (λ i p. price_text c Cold (price_at prices.cold i) p) in
    let front = cost_statement cost ∷ uses in
    let joined = flat_map-append st ((front ++ moves) ++ gives) takes
    ∙ ap (λ t. t ++ flat_map st takes) (flat_map-append st (front ++ moves) gives ∙ ap (λ t. t ++ flat_map st gives) (flat_map-append st front moves)) in
    (λ i. (cost_text cost i ++ uses_text i) ++ ((moves_text i ++ gives_text i) ++ takes_text i))
    ∙ sym (joined ∙ in_a_row (st (cost_statement cost)) (flat_map st uses) (flat_map st moves) (flat_map st gives) (flat_map st takes))

pub cut-text : (c : Case) (parts : Parts) (cut : Cut)
    → All (λ i. i < length (own_parts c parts.hot parts.cold cut.kind)) cut.parts
    → stuck_text (case_names c) parts cut ≡ report_text (cut_report c parts.hot parts.cold cut)
unfolding fields_text
cut-text c parts cut within =
    let own = own_parts c parts.hot parts.cold cut.kind in
    let members = texts_each (member_line (case_names c) own) part_statement (named_at c own) cut.parts
    (λ k d inside. member_text c own (get_or cut.parts k d) (within k d inside)) in
    ap₂ (λ first rest. codes "infeasible\n" ++ (first ++ rest)) (kind_line_text cut.kind cut.need cut.offer cut.parts) members
