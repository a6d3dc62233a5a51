-- The lines of a course: each is one of its stream, and as many lead a branch through an exchanger as shares of the
-- course do.
use Rattle.design_lines.proofs.Words.{All-cons, Branch, Course, Exchanger, HasPositiveSize, IsOfOneStream, IsShareOf, Joins, Line, PassesDeclared}
use Rattle.design_lines.proofs.Words.{Share, count_by, count_by-cons, declared_line, is_pass_of, nat_tests, stream_at, sum_by, turns}
use Rattle.std.proofs.Common.{All, Bool, List, Some, [], ap, arith, cond, false, length, map, refl, slice_get, subst, suc, sym, true, zero, ℕ, ◌&&◌}
use Rattle.std.proofs.Common.{◌+◌, ◌<◌, ◌==◌, ◌∙◌, ◌∷◌, ◌≡◌}
use Rattle.design_lines.proofs.Walks.{KeepAll, weight}
use Rattle.design_lines.proofs.UsedOnce.{no_weight}
use Rattle.networks.specs.declared.network.Line.TheVariants as line

-- what the shape asks of a line by itself
pub record IsRightLine (branches : List Branch) (exchangers : List Exchanger) (l : Line) : Type 0 where
  pub one_stream : IsOfOneStream branches l
  pub size : HasPositiveSize l
  pub declared : PassesDeclared branches exchangers l

module _ (branches : List Branch) (exchangers : List Exchanger) where
  abbrev pub AreRight : ℕ → ℕ → List Line → Type 0
  AreRight n w lines = All (IsRightLine branches exchangers) lines

  pub right_keep : KeepAll AreRight (λ stream n b. stream_at branches b ≡ stream) (IsShareOf exchangers) (λ b. 0)
      (λ stream s. 0) (λ shares. 0 < length shares)
  right_keep = record {
    keeps = λ stream. record {
      split =
          λ n from w all left s lines share of_from of_first of_second sum sums more.
          All-cons (IsRightLine branches exchangers) _ _ (record {
            one_stream = (of_first ∙ sym of_from, of_second ∙ sym of_from);
            size = share.size;
            declared = tt;
          }) more;
      pass = λ n from w all left s lines share of_from of_to sum sums more.
          let (e, is, joins) = share.joined in
          All-cons (IsRightLine branches exchangers) _ _ (record {
            one_stream = of_to ∙ sym of_from;
            size = tt;
            declared = (e, is, subst (λ k. Joins e k) (sym of_from) joins);
          }) more;
      mix = λ n first second w all left lines of_first of_second of_to sum sums more.
          All-cons (IsRightLine branches exchangers) _ _
          (record { one_stream = (of_second ∙ sym of_first, of_to ∙ sym of_first); size = tt; declared = tt }) more;
      none = λ some n w all lines more. absurd (omega (arith, some));
    };
    end = λ stream n from w all lines of_from sum more. All-cons (IsRightLine branches exchangers) _ _
        (record { one_stream = tt; size = tt; declared = tt }) more;
  }

one_of_both : (a b : Bool) → ◌≡◌ {A = ℕ} (cond (a && b) 1 0) (cond b (cond a 1 0) 0)
one_of_both a b = grind arith

module _ (branches : List Branch) (exchanger stream : ℕ) where
  -- a share of the stream counts where it passes the exchanger
  abbrev pub counts : ℕ → Share → ℕ
  counts of s = cond (stream == of) (cond (exchanger == s.exchanger) 1 0) 0

  abbrev pub IsCounted : ℕ → ℕ → List Line → Type 0
  IsCounted n w lines = count_by (is_pass_of branches exchanger stream) lines ≡ w

  pub counted_keep : KeepAll IsCounted (λ of n b. stream_at branches b ≡ of) (λ of s. Unit {0}) (λ b. 0) counts
      (λ shares. 0 < length shares)
  counted_keep =
      let p = is_pass_of branches exchanger stream in
      record {
        keeps = λ of. record {
          split = λ n from w all left s lines share of_from of_first of_second sum sums more.
              omega (arith, count_by-cons p (line.Split from n s.cp (n + 1)) lines, sum, sums, more);
          pass = λ n from w all left s lines share of_from of_to sum sums more.
              let one = one_of_both (exchanger == s.exchanger) (stream == stream_at branches from)
              ∙ ap (λ k. counts k s) of_from in
              omega (arith, count_by-cons p (line.Pass from s.exchanger n) lines, one, sum, sums, more);
          mix = λ n first second w all left lines of_first of_second of_to sum sums more.
              omega (arith, count_by-cons p (line.Mix first second n) lines, sum, sums, more);
          none = λ some n w all lines more. absurd (omega (arith, some));
        };
        end = λ of n from w all lines of_from sum more. omega (arith, count_by-cons p (line.End from) lines, sum, more);
      }

  pub counted-declared : (exchangers : List Exchanger)
      → count_by (is_pass_of branches exchanger stream) (map declared_line exchangers) ≡ 0
  counted-declared [] = refl
  counted-declared (e ∷ exchangers) =
      omega (
        arith,
        count_by-cons (is_pass_of branches exchanger stream) (declared_line e) (map declared_line exchangers),
        counted-declared exchangers,
      )

  -- the shares of another stream count nothing, and those of the stream by their exchangers
  abbrev counted : ℕ → Course → ℕ
  counted of course = sum_by (λ shares. sum_by (counts of) shares) course

  none-other : (of : ℕ) (course : Course) → (stream == of) ≡ false → counted of course ≡ 0
  none-other of course other =
      ap (λ t.
      sum_by (λ shares. sum_by (λ (s : Share). cond t (cond (exchanger == s.exchanger) 1 0) 0) shares) course) other
      ∙ no_weight course

  turns-own : (of : ℕ) (course : Course) → (stream == of) ≡ true → counted of course ≡ turns exchanger course
  turns-own of course same =
      ap (λ t.
      sum_by (λ shares. sum_by (λ (s : Share). cond t (cond (exchanger == s.exchanger) 1 0) 0) shares) course) same

  abbrev counted_from : ℕ → List Course → ℕ
  counted_from of courses =
      weight IsCounted (λ k n b. stream_at branches b ≡ k) (λ k s. Unit {0}) (λ b. 0) counts
      (λ shares. 0 < length shares) of courses

  none-later : (of : ℕ) (courses : List Course) → stream < of → counted_from of courses ≡ 0
  none-later of [] later = refl
  none-later of (course ∷ courses) later =
      omega (
        arith,
        none-other of course (grind (arith, nat_tests, later)),
        none-later (of + 1) courses (omega (arith, later)),
      )

  pub turns-there : (of i : ℕ) (courses : List Course) (course : Course) → of + i ≡ stream
      → slice_get courses i ≡ Some course
      → counted_from of courses ≡ turns exchanger course
  turns-there of i [] course is at = cc at
  turns-there of zero (c ∷ courses) course is at =
      let same : c ≡ course = cc at in
      let here = turns-own of c (grind (arith, nat_tests, is)) ∙ ap (turns exchanger) same in
      omega (arith, here, none-later (of + 1) courses (omega (arith, is)))
  turns-there of (suc i) (c ∷ courses) course is at =
      omega (
        arith,
        none-other of c (grind (arith, nat_tests, is)),
        turns-there (of + 1) i courses course (omega (arith, is)) at,
      )
