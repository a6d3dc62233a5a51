-- The records of a text, one after the other.
use Rattle.rows.proofs.Words.{Action, Config, Headers, Reached, ReadRecord, Reader, Ready, Row, State, Terminator, default_config, is_flexible, reader_headers}
use Rattle.rows.proofs.Words.{reader_state, records_from, records_next, rows-end, rows-more, rows_of, strip_bom, took_first}
use Rattle.csv.specs.Machine.{Read, after_end, ends_at_end, field_after, fields_after, in_field, is_end, next_record, start_field, start_record, step}
use Rattle.rows.specs.Left.{GivesRows, bytes_left, records_left}
use Rattle.std.proofs.Common.{Bool, Bor, List, MatchBool, None, Option, Some, [], add-one, ap, arith, false, if◌then◌else◌, inl, inr, is_none, is_some, length}
use Rattle.std.proofs.Common.{not, refl, suc, sym, true, zero, ℕ, ◌++◌, ◌+◌, ◌<◌, ◌∙◌, ◌∷◌, ◌≡◌, ◌≤◌}
use Rattle.csv.specs.declared.parser.Action.TheVariants as act
use Rattle.csv.specs.declared.parser.State.TheVariants as st
use Rattle.csv.specs.declared.parser.Terminator.TheVariants as term

-- where an action ends the record, the state is one in which none is begun
record Rests (p : State × Action) : Type 0 where
  rests : is_end p.1 ≡ true → ends_at_end p.0 ≡ false

rests-if : (b : Bool) (p q : State × Action) → Rests p → Rests q → Rests (if b then p else q)
rests-if true p q hp hq = hp
rests-if false p q hp hq = hq

rests-skip : (s : State) → Rests (s, act.Skip)
rests-skip s = record { rests = λ e. cc e }

rests-copy : (s : State) → Rests (s, act.Copy)
rests-copy s = record { rests = λ e. cc e }

rests-end_field : (s : State) → Rests (s, act.EndField)
rests-end_field s = record { rests = λ e. cc e }

rests-after : (t : Terminator) (c : ℕ) → ends_at_end (after_end t c) ≡ false
rests-after term.CRLF c = grind (arith)
rests-after (term.Any b) c = refl

rests-end : (t : Terminator) (c : ℕ) → Rests (after_end t c, act.EndRecord)
rests-end t c = record { rests = λ e. rests-after t c }

rests-field : (cfg : Config) (c : ℕ) → Rests (in_field cfg c)
rests-field cfg c = search (rests-if, rests-copy, rests-end_field, rests-end)

rests-start : (cfg : Config) (c : ℕ) → Rests (start_field cfg c)
rests-start cfg c = search (rests-if, rests-skip, rests-field)

rests-record : (cfg : Config) (c : ℕ) → Rests (start_record cfg c)
rests-record cfg c = search (rests-if, rests-skip, rests-start)

rests-step : (cfg : Config) (s : State) (c : ℕ) → Rests (step cfg s c)
rests-step cfg st.StartRecord c = rests-record cfg c
rests-step cfg st.StartField c = rests-start cfg c
rests-step cfg st.InField c = rests-field cfg c
rests-step cfg st.InQuoted c = search (rests-if, rests-skip, rests-copy)
rests-step cfg st.InEscape c = rests-copy _
rests-step cfg st.AfterQuote c = search (rests-if, rests-copy, rests-field)
rests-step cfg st.InComment c = search (rests-if, rests-skip)
rests-step cfg st.AfterCr c = search (rests-if, rests-skip, rests-record)

-- a read takes no more bytes than there are, and ends where no record is begun
pub next-length : (cfg : Config) (s : State) (fs : List (List ℕ)) (f xs : List ℕ) (p : Read)
    → next_record cfg s fs f xs ≡ Some p
    → (length p.2 ≤ length xs) × (ends_at_end p.1 ≡ false)
unfolding next_record
next-length cfg s fs f [] p e = at_end (ends_at_end s) refl
  where
    at_end : (b : Bool) → ends_at_end s ≡ b → (length p.2 ≤ 0) × (ends_at_end p.1 ≡ false)
    at_end true b =
        let q : (fs ++ (f ∷ []), st.StartRecord, []) ≡ p = cc (rw b at e) in
        rw (← q) (omega arith, refl)
    at_end false b = cc (rw b at e)
next-length cfg s fs f (c ∷ rest) p e = by (is_end (step cfg s c).1) refl (next-length cfg (step cfg s c).0 _ _ rest p)
  where
    by : (b : Bool) → is_end (step cfg s c).1 ≡ b
        → (next_record cfg (step cfg s c).0 (fields_after (step cfg s c).1 fs f) (field_after (step cfg s c).1 c f) rest ≡ Some p
        → (length p.2 ≤ length rest) × (ends_at_end p.1 ≡ false))
        → (length p.2 ≤ suc (length rest)) × (ends_at_end p.1 ≡ false)
    by true b more =
        let q : (fields_after (step cfg s c).1 fs f, (step cfg s c).0, rest) ≡ p = cc (rw b at e) in
        rw (← q) (omega arith, (rests-step cfg s c).rests b)
    by false b more = let h = more (rw b at e) in (omega arith, h.1)

-- from a state in which no record is begun a read takes a byte
pub next-shorter : (cfg : Config) (s : State) (xs : List ℕ) (p : Read) → ends_at_end s ≡ false
    → next_record cfg s [] [] xs ≡ Some p
    → (length p.2 < length xs) × (ends_at_end p.1 ≡ false)
unfolding next_record
next-shorter cfg s [] p begun e = cc (rw begun at e)
next-shorter cfg s (c ∷ rest) p begun e = by (is_end (step cfg s c).1) refl
  where
    by : (b : Bool) → is_end (step cfg s c).1 ≡ b → (length p.2 < suc (length rest)) × (ends_at_end p.1 ≡ false)
    by true b =
        let q : (fields_after (step cfg s c).1 [] [], (step cfg s c).0, rest) ≡ p = cc (rw b at e) in
        rw (← q) (omega arith, (rests-step cfg s c).rests b)
    by false b =
        let h = next-length cfg (step cfg s c).0 _ _ rest p (rw b at e) in
        (omega arith, h.1)

-- more turns than bytes give every record
pub records_from-turns : (cfg : Config) (m n : ℕ) (s : State) (xs : List ℕ) → ends_at_end s ≡ false
    → length xs < m → length xs < n
    → records_from cfg m s xs ≡ records_from cfg n s xs
unfolding records_from
records_from-turns cfg zero n s xs begun hm hn = absurd (omega (arith, hm))
records_from-turns cfg (suc m) zero s xs begun hm hn = absurd (omega (arith, hn))
records_from-turns cfg (suc m) (suc n) s xs begun hm hn =
    by (next_record cfg s [] [] xs) refl (λ p. records_from-turns cfg m n p.1 p.2)
  where
    by : (o : Option Read) → next_record cfg s [] [] xs ≡ o
        → ((p : Read) → ends_at_end p.1 ≡ false → length p.2 < m → length p.2 < n → records_from cfg m p.1 p.2 ≡ records_from cfg n p.1 p.2)
        → records_next (records_from cfg m) (next_record cfg s [] [] xs)
        ≡ records_next (records_from cfg n) (next_record cfg s [] [] xs)
    by None e more = rw e refl
    by (Some p) e more =
        let h = next-shorter cfg s xs p begun e in
        rw e (ap (λ r. p.0 ∷ r) (more p h.1 (omega arith) (omega arith)))

-- each record takes a byte
pub records_from-length : (cfg : Config) (n : ℕ) (s : State) (xs : List ℕ) → ends_at_end s ≡ false
    → length (records_from cfg n s xs) ≤ length xs
unfolding records_from
records_from-length cfg zero s xs begun = omega arith
records_from-length cfg (suc n) s xs begun =
    by (next_record cfg s [] [] xs) refl (λ p. records_from-length cfg n p.1 p.2)
  where
    by : (o : Option Read) → next_record cfg s [] [] xs ≡ o
        → ((p : Read) → ends_at_end p.1 ≡ false → length (records_from cfg n p.1 p.2) ≤ length p.2)
        → length (records_next (records_from cfg n) (next_record cfg s [] [] xs)) ≤ length xs
    by None e more = rw e (omega arith)
    by (Some p) e more =
        let h = next-shorter cfg s xs p begun e in
        let l = more p h.1 in
        rw e (omega (arith, l, h.0))

-- what is left is the next record and what is left after it
pub left-some : (s : State) (xs : List ℕ) (p : Read) → ends_at_end s ≡ false
    → next_record default_config s [] [] xs ≡ Some p
    → records_left s (Some xs) ≡ p.0 ∷ records_left p.1 (Some p.2)
unfolding records_left records_from
left-some s xs p begun e = let h = next-shorter default_config s xs p begun e in
    rw (add-one, e) (ap (λ r. p.0 ∷ r) (records_from-turns default_config (length xs) (length p.2 + 1) p.1 p.2 h.1 h.0 (omega arith)))

pub left-none : (s : State) (xs : List ℕ) → next_record default_config s [] [] xs ≡ None → records_left s (Some xs) ≡ []
unfolding records_left records_from
left-none s xs e = rw (add-one, e) refl

known_some : (o : Option (List ℕ)) → is_some o ≡ true → (xs : List ℕ) × (o ≡ Some xs)
known_some None e = cc e
known_some (Some xs) e = (xs, refl)

none_known : (o : Option Headers) → is_none o ≡ true → o ≡ None
none_known None e = refl
none_known (Some h) e = cc e

-- the next read is of one record
pub ready : (s : Reader (Bor (List ℕ))) → GivesRows s → Ready s
ready s g = by (took_first s) refl
  where
    by : (b : Bool) → took_first s ≡ b → Ready s
    by true e = inl e
    by false e = inr (inr (g.headers, none_known (reader_headers s) (g.first e)))

-- what a read that found a row leaves
pub record TakesRow (a b : Reader (Bor (List ℕ))) (row : List (List ℕ)) : Type 0 where
  pub left : records_left (reader_state a) (bytes_left a) ≡ row ∷ records_left (reader_state b) (bytes_left b)
  pub gives : GivesRows b

left-after : (s s2 : State) (xs z : List ℕ) (row : Row) (p : Read) → ends_at_end s ≡ false
    → next_record default_config s [] [] xs ≡ Some p
    → row ≡ p.0 → p.1 ≡ s2 → p.2 ≡ z
    → (records_left s (Some xs) ≡ row ∷ records_left s2 (Some z)) × (ends_at_end s2 ≡ false)
left-after s s2 xs z row p begun next fields state rest =
    rw (fields, ← state, ← rest) (left-some s xs p begun next, (next-shorter default_config s xs p begun next).1)

pub takes_row : (a b : Reader (Bor (List ℕ))) (row : List (List ℕ)) → GivesRows a
    → ReadRecord (λ r. Some r.now) a b true row → took_first b ≡ true
    → is_flexible b ≡ is_flexible a → TakesRow a b row
unfolding Reached
takes_row a b row g r first flexible =
    let (xs, from) = known_some (bytes_left a) g.known in
    let (z, to, reached) = rows-more (λ (s : Bor (List ℕ)). Some s.now) a b row default_config (reader_state a) xs xs [] g.config from (refl, refl) r in
    let (p, next, fields, ends) = reached in
    let after = left-after (reader_state a) (reader_state b) xs z row p g.state next fields ends.0 ends.1 in
    record {
      left =
          ap (records_left (reader_state a)) from ∙ after.0 ∙ ap (λ o. row ∷ records_left (reader_state b) o) (sym to);
      gives = record {
        config = r.2 ∙ g.config;
        trim = r.3 ∙ g.trim;
        flexible = flexible ∙ g.flexible;
        headers = r.4 ∙ g.headers;
        first = λ e. cc (e, first);
        state = after.1;
        known = rw to refl;
      };
    }

-- the start of a text
pub left-start : (s : Reader (Bor (List ℕ))) (text : List ℕ) → reader_state s ≡ st.StartRecord
    → bytes_left s ≡ Some (strip_bom text)
    → records_left (reader_state s) (bytes_left s) ≡ rows_of text
unfolding records_left rows_of
left-start s text start from = rw (start, from) refl

pub takes_none : (a b : Reader (Bor (List ℕ))) (row : List (List ℕ)) → GivesRows a
    → ReadRecord (λ r. Some r.now) a b false row
    → records_left (reader_state a) (bytes_left a) ≡ []
takes_none a b row g r = let (xs, from) = known_some (bytes_left a) g.known in
    rw from (left-none (reader_state a) xs (rows-end (λ (s : Bor (List ℕ)). Some s.now) a b row default_config xs g.config from r))

-- what a read leaves, whether it found a row or not
pub read_left : (a b : Reader (Bor (List ℕ))) (found : Bool) (row : List (List ℕ)) → GivesRows a
    → ReadRecord (λ r. Some r.now) a b found row
    → took_first b ≡ true → is_flexible b ≡ is_flexible a → MatchBool found
    (records_left (reader_state a) (bytes_left a) ≡ row ∷ (if not found then [] else records_left (reader_state b) (bytes_left b)))
    (records_left (reader_state a) (bytes_left a) ≡ [])
read_left a b true row g r first flexible = (takes_row a b row g r first flexible).left
read_left a b false row g r first flexible = takes_none a b row g r

pub read_gives : (a b : Reader (Bor (List ℕ))) (found : Bool) (row : List (List ℕ)) → GivesRows a
    → ReadRecord (λ r. Some r.now) a b found row
    → took_first b ≡ true → is_flexible b ≡ is_flexible a → not found ≡ false → GivesRows b
read_gives a b true row g r first flexible e = (takes_row a b row g r first flexible).gives
read_gives a b false row g r first flexible e = cc e

-- a text has no more rows than bytes
strip_bom-length : (xs : List ℕ) → length (strip_bom xs) ≤ length xs
unfolding strip_bom
strip_bom-length [] = omega arith
strip_bom-length (a ∷ []) = omega arith
strip_bom-length (a ∷ b ∷ []) = omega arith
strip_bom-length (a ∷ b ∷ c ∷ rest) = grind arith

pub rows_of-length : (text : List ℕ) → length (rows_of text) ≤ length text
unfolding rows_of
rows_of-length text =
    omega (arith, records_from-length default_config (length (strip_bom text) + 1) st.StartRecord (strip_bom text) refl, strip_bom-length text)
