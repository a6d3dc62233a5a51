-- A walk over the lines of courses, with the numbers of branches as they are made: what each kind of line keeps holds of all lines.
use Rattle.design_lines.proofs.Words.{All-cons, All-head, All-nil, All-tail, Course, Line, Rational, Share, all_branches, behind_splits, course_branches}
use Rattle.design_lines.proofs.Words.{course_lines, courses_lines, mixes, passes, range_with_len, rest_branch, share_branches, splits, stage_branches}
use Rattle.design_lines.proofs.Words.{stage_end, stage_lines, sum_by, sum_by-cons}
use Rattle.std.proofs.Common.{All, List, Some, [], ap, append_assoc, arith, length, refl, slice_get, subst, suc, sym, zero, ℕ, ◌*◌, ◌++◌, ◌+◌, ◌-◌, ◌<◌, ◌∙◌}
use Rattle.std.proofs.Common.{◌∷◌, ◌≡◌, ◌≤◌}
use Rattle.networks.specs.declared.network.Line.TheVariants as line

-- ---- the branches of shares

pub length-share_branches : (next rest : ℕ) (shares : List Share)
    → length (share_branches next rest shares) ≡ length shares
length-share_branches next rest [] = refl
length-share_branches next rest (s ∷ []) = refl
length-share_branches next rest (s ∷ t ∷ shares) = ap suc (length-share_branches (next + 2) rest (t ∷ shares))

-- what holds of the branch that is divided and of each new one holds of the branches of the shares
module _ (P : ℕ → Type 0) where
  abbrev pub HoldsOfNew : ℕ → List Share → Type 0
  HoldsOfNew next shares = (k : ℕ) → next ≤ k → k < next + 2 * (length shares - 1) → P k

  pub branches_hold : (next from : ℕ) (shares : List Share) → P from → HoldsOfNew next shares
      → All P (share_branches next (rest_branch next from shares) shares)
  branches_hold next from [] own new = All-nil P
  branches_hold next from (s ∷ []) own new = All-cons P from [] own (All-nil P)
  branches_hold next from (s ∷ t ∷ shares) own new =
      All-cons P _ _ (new next (omega arith) (omega arith))
      (branches_hold (next + 2) (next + 1) (t ∷ shares) (new (next + 1) (omega arith) (omega arith))
      (λ k low high. new k (omega (arith, low)) (omega (arith, high))))

-- ---- what lines keep

module _ (B : ℕ → ℕ → Type 0) where
  -- the branch b is as `B` says from the time on when `low` branches are made, until `last` are
  abbrev pub Stays : ℕ → ℕ → ℕ → Type 0
  Stays last low b = (n : ℕ) → low ≤ n → n ≤ last → B n b

  -- so is each branch from number `start` on
  abbrev pub StayNew : ℕ → ℕ → Type 0
  StayNew last start = (k : ℕ) → start ≤ k → Stays last (k + 1) k

-- `S n w lines` is said of lines before which n branches are made; w is the weight, by `u`, of the branches that are open there, with that of the shares that
-- are still to pass, by `v`. `B n b` is said of a branch b there, `F` of a share, and `E` of a stage
pub record Keeps (S : ℕ → ℕ → List Line → Type 0) (B : ℕ → ℕ → Type 0) (F : Share → Type 0) (u : ℕ → ℕ)
    (v : Share → ℕ) (E : List Share → Type 0) : Type 0 where
  pub split : (n from w all more : ℕ) (s : Share) (lines : List Line) → F s → B n from → B (n + 2) n
      → B (n + 2) (n + 1) → all ≡ u from + w
      → more ≡ u n + u (n + 1) + w → S (n + 2) more lines → S n all (line.Split from n s.cp (n + 1) ∷ lines)
  pub pass : (n from w all more : ℕ) (s : Share) (lines : List Line) → F s → B n from → B (n + 1) n
      → all ≡ u from + v s + w → more ≡ u n + w
      → S (n + 1) more lines → S n all (line.Pass from s.exchanger n ∷ lines)
  pub mix : (n first second w all more : ℕ) (lines : List Line) → B n first → B n second → B (n + 1) n
      → all ≡ u first + u second + w → more ≡ u n + w
      → S (n + 1) more lines → S n all (line.Mix first second n ∷ lines)
  pub none : E [] → (n w all : ℕ) (lines : List Line) → S (n + 1) w lines → S n all lines

module _ (S : ℕ → ℕ → List Line → Type 0) (B : ℕ → ℕ → Type 0) (F : Share → Type 0) (u : ℕ → ℕ)
    (v : Share → ℕ) (E : List Share → Type 0) (keeps : Keeps S B F u v E) where
  moved : (n m w all : ℕ) (lines : List Line) → S n w lines → n ≡ m → w ≡ all → S m all lines
  moved n m w all lines after number weight = subst (λ k. S k all lines) number (subst (λ k. S n k lines) weight after)

  module _ (start last : ℕ) (new : StayNew B last start) where
    walk_splits : (next from w all : ℕ) (shares : List Share) (lines : List Line) → 0 < length shares
        → All F shares → start ≤ next
        → behind_splits next shares ≤ last → Stays B last next from → all ≡ u from + w
        → S (behind_splits next shares) (sum_by u (share_branches next (rest_branch next from shares) shares) + w) lines
        → S next all (splits next from shares ++ lines)
    walk_splits next from w all [] lines some each low high stays sum after = absurd (omega (arith, some))
    walk_splits next from w all (s ∷ []) lines some each low high stays sum after =
        moved (behind_splits next (s ∷ [])) next _ all lines after (omega arith)
        (omega (arith, sum, sum_by-cons u from []))
    walk_splits next from w all (s ∷ t ∷ shares) lines some each low high stays sum after =
        let rest = t ∷ shares in
        let divided = share_branches (next + 2) (rest_branch (next + 2) (next + 1) rest) rest in
        let two = new (next + 1) (omega (arith, low)) in
        let more = u (next + 1) + (u next + w) in
        let last_ones = moved (behind_splits next (s ∷ rest)) (behind_splits (next + 2) rest)
        (sum_by u (next ∷ divided) + w) (sum_by u divided + (u next + w)) lines after (omega arith)
        (omega (arith, sum_by-cons u next divided)) in
        let later = walk_splits (next + 2) (next + 1) (u next + w) more (t ∷ shares) lines (omega arith)
        (All-tail F s rest each) (omega (arith, low)) (omega (arith, high))
        (λ n further. two n (omega (arith, further))) refl last_ones in
        let held = stays next (omega arith) (omega (arith, high)) in
        let first_new = new next low (next + 2) (omega arith) (omega (arith, high)) in
        let second_new = two (next + 2) (omega arith) (omega (arith, high)) in
        keeps.split next from w all more s (splits (next + 2) (next + 1) rest ++ lines) (All-head F s rest each) held
        first_new second_new sum (omega arith) later

    walk_passes : (least to w all : ℕ) (branches : List ℕ) (shares : List Share) (lines : List Line)
        → All F shares → length branches ≡ length shares
        → start ≤ to → least ≤ to → to + length shares ≤ last → All (Stays B last least) branches
        → all ≡ sum_by u branches + (sum_by v shares + w)
        → S (to + length shares) (sum_by u (range_with_len to (length shares)) + w) lines
        → S to all (passes to branches shares ++ lines)
    walk_passes least to w all [] [] lines each many low some high stays sum after =
        moved (to + 0) to (0 + w) all lines after (omega arith)
        (omega (arith, sum))
    walk_passes least to w all [] (s ∷ shares) lines each many low some high stays sum after =
        absurd (omega (arith, many))
    walk_passes least to w all (b ∷ branches) [] lines each many low some high stays sum after =
        absurd (omega (arith, many))
    walk_passes least to w all (b ∷ branches) (s ∷ shares) lines each many low some high stays sum after =
        let n = length shares in
        let more = sum_by u branches + (sum_by v shares + (u to + w)) in
        let last_ones = moved (to + suc n) (to + 1 + n) (sum_by u (range_with_len to (suc n)) + w)
        (sum_by u (range_with_len (to + 1) n) + (u to + w)) lines after (omega arith)
        (omega (arith, sum_by-cons u to (range_with_len (to + 1) n))) in
        let others_stay = All-tail (Stays B last least) b branches stays in
        let later = walk_passes least (to + 1) (u to + w) more branches shares lines (All-tail F s shares each)
        (omega (arith, many)) (omega (arith, low)) (omega (arith, some)) (omega (arith, high)) others_stay refl
        last_ones in
        let held = All-head (Stays B last least) b branches stays to some (omega (arith, high)) in
        let made_new = new to low (to + 1) (omega arith) (omega (arith, high)) in
        keeps.pass to b (sum_by u branches + (sum_by v shares + w)) all more s
        (passes (to + 1) branches shares ++ lines) (All-head F s shares each) held made_new
        (omega (arith, sum, sum_by-cons u b branches, sum_by-cons v s shares)) (omega arith) later

    walk_mixes : (n to first second stop w all : ℕ) (lines : List Line) → start ≤ first → first < to
        → start ≤ second → second + n ≤ to → to + n ≤ last
        → (n ≡ 0 → stop ≡ first) → (0 < n → stop + 1 ≡ to + n)
        → all ≡ u first + (sum_by u (range_with_len second n) + w) → S (to + n) (u stop + w) lines
        → S to all (mixes n to first second ++ lines)
    walk_mixes zero to first second stop w all lines low before beside within high none some sum after =
        let same = ap u (none refl) in
        moved (to + 0) to (u stop + w) all lines after (omega arith) (omega (arith, sum, same))
    walk_mixes (suc n) to first second stop w all lines low before beside within high none some sum after =
        let others = sum_by u (range_with_len (second + 1) n) + w in
        let is : stop + 1 ≡ to + suc n = some (omega arith) in
        let last_ones = moved (to + suc n) (to + 1 + n) (u stop + w) (u stop + w) lines after (omega arith) refl in
        let later = walk_mixes n (to + 1) to (second + 1) stop w (u to + others) lines (omega (arith, low, before))
        (omega arith) (omega (arith, beside)) (omega (arith, within)) (omega (arith, high))
        (λ last_one. omega (arith, is, last_one)) (λ more. omega (arith, is)) refl last_ones in
        let first_known = new first low to (omega (arith, before)) (omega (arith, high)) in
        let second_known = new second beside to (omega (arith, within)) (omega (arith, high)) in
        let made_new = new to (omega (arith, low, before)) (to + 1) (omega arith) (omega (arith, high)) in
        keeps.mix to first second others all (u to + others) (mixes n (to + 1) to (second + 1) ++ lines) first_known
        second_known made_new (omega (arith, sum, sum_by-cons u second (range_with_len (second + 1) n))) refl later

    walk_stage : (next from w all : ℕ) (shares : List Share) (lines : List Line) → E shares → All F shares
        → start ≤ next → next + stage_branches shares ≤ last
        → Stays B last next from → all ≡ u from + (sum_by v shares + w)
        → S (next + stage_branches shares) (u (stage_end next shares) + w) lines
        → S next all (stage_lines next from shares ++ lines)
    unfolding stage_lines
    walk_stage next from w all [] lines may each low high stays sum after =
        keeps.none may next (u (stage_end next []) + w) all lines after
    walk_stage next from w all (first ∷ later) lines may each low high stays sum after =
        let shares = first ∷ later in
        let some : 0 < length shares = omega arith in
        let n = length shares in
        let more = n - 1 in
        let behind = behind_splits next shares in
        let divided = share_branches next (rest_branch next from shares) shares in
        let ss = splits next from shares in
        let ps = passes behind divided shares in
        let ms = mixes more (behind + n) behind (behind + 1) in
        let end : next + stage_branches shares ≡ behind + n + more = omega (arith, some) in
        let stop = stage_end next shares in
        let joined = u behind + (sum_by u (range_with_len (behind + 1) more) + w) in
        let count : suc more ≡ n = omega (arith, some) in
        let all_made = sym (sum_by-cons u behind (range_with_len (behind + 1) more))
        ∙ ap (λ k. sum_by u (range_with_len behind k)) count in
        let last_ones =
        moved (next + stage_branches shares) (behind + n + more) (u stop + w) (u stop + w) lines after end refl in
        let mixed = walk_mixes more (behind + n) behind (behind + 1) stop w joined lines (omega (arith, low))
        (omega (arith, some)) (omega (arith, low)) (omega (arith, some)) (omega (arith, high, end))
        (λ none. omega (arith, none)) (λ others. omega (arith, some)) refl last_ones in
        let held = branches_hold (Stays B last behind) next from shares (λ k further. stays k (omega (arith, further)))
        (λ k least most m further. new k (omega (arith, low, least)) m (omega (arith, most, further))) in
        let one_each = length-share_branches next (rest_branch next from shares) shares in
        let last_ones = moved (behind + n) (behind + n) joined (sum_by u (range_with_len behind n) + w) (ms ++ lines)
        mixed refl (omega (arith, all_made)) in
        let passed = walk_passes behind behind w (sum_by u divided + (sum_by v shares + w)) divided shares (ms ++ lines)
        each one_each (omega (arith, low)) (omega arith) (omega (arith, high, end)) held refl last_ones in
        let one : (ss ++ (ps ++ ms)) ++ lines ≡ ss ++ (ps ++ (ms ++ lines)) = append_assoc ss (ps ++ ms) lines
        ∙ ap (λ ls. ss ++ ls) (append_assoc ps ms lines) in
        let walked = walk_splits next from (sum_by v shares + w) all shares (ps ++ (ms ++ lines)) some each low
        (omega (arith, high, end)) stays sum passed in
        subst (S next all) (sym one) walked

    -- the stages of a course, and its end
    pub walk_course : (next from w all : ℕ) (course : Course) (lines : List Line) → All E course
        → All (λ shares. All F shares) course → start ≤ next → next + course_branches course ≤ last
        → Stays B last next from → all ≡ u from + (sum_by (λ shares. sum_by v shares) course + w)
        → ((b : ℕ) → B (next + course_branches course) b
        → S (next + course_branches course) (u b + w) (line.End b ∷ lines))
        → S next all (course_lines next from course ++ lines)
    walk_course next from w all [] lines may each low high stays sum end =
        let held = stays (next + 0) (omega arith) (omega (arith, high)) in
        let ended = end from held in
        moved (next + 0) next (u from + w) all (line.End from ∷ lines) ended (omega arith) (omega (arith, sum))
    walk_course next from w all (shares ∷ stages) lines may each low high stays sum end =
        let stop = stage_end next shares in
        let later = course_lines (stop + 1) stop stages in
        let left = sum_by (λ ss. sum_by v ss) stages + w in
        let one : stop + 1 ≡ next + stage_branches shares = omega arith in
        let count : next + course_branches (shares ∷ stages) ≡ stop + 1 + course_branches stages = omega arith in
        let last_one = subst (λ n. (b : ℕ) → B n b → S n (u b + w) (line.End b ∷ lines)) count end in
        let others_each = All-tail (λ ss. All F ss) shares stages each in
        let rest = walk_course (stop + 1) stop w (u stop + left) stages lines (All-tail E shares stages may) others_each
        (omega (arith, low)) (omega (arith, high)) (new stop (omega (arith, low))) refl last_one in
        let same_lines = append_assoc (stage_lines next from shares) later lines in
        let first_each = All-head (λ ss. All F ss) shares stages each in
        let last_ones = moved (stop + 1) (next + stage_branches shares) (u stop + left) (u stop + left) (later ++ lines)
        rest one refl in
        let walked = walk_stage next from left all shares (later ++ lines) (All-head E shares stages may) first_each low
        (omega (arith, high)) stays (omega (arith, sum, sum_by-cons (λ (ss : List Share). sum_by v ss) shares stages))
        last_ones in
        subst (S next all) (sym same_lines) walked

-- ---- all courses

-- the streams' own branches and those that their courses make are as `B` says, while branches are made up to the end of the course
module _ (B : ℕ → ℕ → ℕ → Type 0) where
  abbrev pub Follow : ℕ → ℕ → List Course → Type 0
  Follow next stream [] = Unit {0}
  Follow next stream (course ∷ courses) =
      let last = next + course_branches course in
      Stays (B stream) last next stream × StayNew (B stream) last next × Follow last (stream + 1) courses

  pub follow_always : ((stream n b : ℕ) → B stream n b) → (next stream : ℕ) (courses : List Course)
      → Follow next stream courses
  follow_always always next stream [] = tt
  follow_always always next stream (course ∷ courses) = (
    λ n low high.
        always stream n stream,
    λ k low n more high. always stream n k,
    follow_always always
        (next + course_branches course) (stream + 1) courses,
  )

-- what the lines of each stream keep
module _ (S : ℕ → ℕ → List Line → Type 0) (B : ℕ → ℕ → ℕ → Type 0) (F : ℕ → Share → Type 0) (u : ℕ → ℕ)
    (v : ℕ → Share → ℕ) (E : List Share → Type 0) where
  -- the weight of courses
  abbrev pub weight : ℕ → List Course → ℕ
  weight stream [] = 0
  weight stream (course ∷ courses) =
      u stream + (sum_by (λ shares. sum_by (v stream) shares) course + weight (stream + 1) courses)

  abbrev pub EachShare : ℕ → List Course → Type 0
  EachShare stream courses =
      (i : ℕ) (course : Course) → slice_get courses i ≡ Some course → All (λ shares. All (F (stream + i)) shares) course

  pub record KeepAll : Type 0 where
    pub keeps : (stream : ℕ) → Keeps S (B stream) (F stream) u (v stream) E
    pub end : (stream n from w all : ℕ) (lines : List Line) → B stream n from → all ≡ u from + w
        → S n w lines → S n all (line.End from ∷ lines)

  pub walk_courses : KeepAll → (next stream : ℕ) (courses : List Course)
      → All (λ course. All E course) courses → EachShare stream courses
      → Follow B next stream courses → S (next + all_branches courses) 0 []
      → S next (weight stream courses) (courses_lines next stream courses)
  walk_courses keep next stream [] may each follow after =
      let none : next + 0 ≡ next = omega arith in
      subst (λ n. S n 0 []) none after
  walk_courses keep next stream (course ∷ courses) may each follow after =
      let last = next + course_branches course in
      let later = courses_lines last (stream + 1) courses in
      let left = weight (stream + 1) courses in
      let others_may = All-tail (λ c. All E c) course courses may in
      let rest = walk_courses keep last (stream + 1) courses others_may
      (λ i c at.
      let further : stream + suc i ≡ stream + 1 + i = omega arith in
      subst (λ k. All (λ shares. All (F k) shares) c) further (each (suc i) c at))
      follow.2 (subst (λ n. S n 0 []) (omega arith) after) in
      let first_may = All-head (λ c. All E c) course courses may in
      walk_course S (B stream) (F stream) u (v stream) E (keep.keeps stream) next last follow.1 next stream left
      (weight stream (course ∷ courses)) course later first_may
      (subst (λ k. All (λ shares. All (F k) shares) course) (omega arith) (each 0 course refl)) (omega arith)
      (omega arith) follow.0 refl (λ b held. keep.end stream last b left (u b + left) later held refl rest)

-- ---- where nothing is asked of branches and shares, and all are stages

-- the simple case: `S` is kept, whatever the branches and the shares
module _ (S : ℕ → List Line → Type 0) (E : List Share → Type 0) where
  pub record Simple : Type 0 where
    pub split : (n from : ℕ) (cp : Rational) (lines : List Line) → S (n + 2) lines
        → S n (line.Split from n cp (n + 1) ∷ lines)
    pub pass : (n from exchanger : ℕ) (lines : List Line) → S (n + 1) lines → S n (line.Pass from exchanger n ∷ lines)
    pub mix : (n first second : ℕ) (lines : List Line) → S (n + 1) lines → S n (line.Mix first second n ∷ lines)
    pub end : (n from : ℕ) (lines : List Line) → S n lines → S n (line.End from ∷ lines)
    pub none : E [] → (n : ℕ) (lines : List Line) → S (n + 1) lines → S n lines

  pub walk_simply : Simple → (next stream : ℕ) (courses : List Course) → All (λ course. All E course) courses
      → S (next + all_branches courses) []
      → S next (courses_lines next stream courses)
  walk_simply keep next stream courses may after =
      walk_courses (λ n w lines. S n lines) (λ k n b. Unit {0}) (λ k s. Unit {0}) (λ b. 0) (λ k s. 0) E (record {
        keeps = λ k. record {
          split =
              λ n from w all left s lines share of_from of_first of_second sum sums more.
              keep.split n from s.cp lines more;
          pass = λ n from w all left s lines share of_from of_to sum sums more. keep.pass n from s.exchanger lines more;
          mix =
              λ n first second w all left lines of_first of_second of_to sum sums more.
              keep.mix n first second lines more;
          none = λ is n w all lines more. keep.none is n lines more;
        };
        end = λ k n from w all lines of_from sum more. keep.end n from lines more;
      }) next stream courses may (λ i course at k d within j e inside. tt)
      (follow_always (λ k n b. Unit {0}) (λ k n b. tt) next stream courses) after
