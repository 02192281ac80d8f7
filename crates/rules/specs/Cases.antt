-- Document 01's cases W1 to W8 (W6 as document 02's 2026-01 has it), with the triangles where it gives them, U1 and U2, level faces and small reaches, lines of a session
-- that need care, quick touches (2026-04), and start checks and walks from ready starts (2026-05): one statement over a list, by evaluation.
use Rattle.std.specs.Prelude.{◌≡◌, refl, true, false, List, [], ◌∷◌, map, ℕ, ℤ, pos, negsuc}
use Prim.Native.String.{String}
use Rattle.std.specs.Float.{binary32}
use Rattle.std.specs.Float.Ieee.{round as rounded}
use Rattle.rules.specs.declared.Solid.TheVariants.{Wedge as IsWedge}
use Rattle.rules.specs.declared.Triangle.{Triangle}
use Rattle.rules.specs.Answers.{Pick, Check, Touch, Line, Display}
use Rattle.std.specs.Prelude.{Ok as Accepted, Err as Refused, Ok as Ready, Err as CheckRefused, Ok as Guess, Err as TouchRefused, Some as Asks, None as OtherForm, Ok as Lit}
use Rattle.rules.specs.declared.Levels.{Levels}
use Rattle.rules.specs.declared.ReadyStart.{ReadyStart}
use Rattle.rules.specs.declared.Vector.{Vector}
use Rattle.rules.specs.Vectors.{vector, ◌⊕◌, ◌⊖◌, minus, scale, dot, cross, det, sphere, lay, size}
use Rattle.rules.specs.Solids.{between, permitted_wedge, filled_wedge, in_box, look}
use Rattle.rules.specs.Asked.{after, ◌>>=◌}
use Rattle.rules.specs.Walk.{levels, none_level, ensure, sign, signs, seen, asked, powers_from, powers, triangle, normal, all_level, keep, only, remaining, takes_part, levelled, determinant, inside, any_inside, first_free, choice, look_at, falls_at, facing, is_level, axes, start, corners_filled, all_corners, quick_start, falling, round, walk, rounds, found, end}
use Rattle.rules.specs.Pick.{is_inside, placing, judging, check, pick, answer, pick_of}
use Rattle.rules.specs.TwoCalls.{ready_start, check_answer, check_of, is_ready, readiness, walk_on, answer_from, walk_answer, walk_of}
use Rattle.rules.specs.Touch.{touch, marked, touch_of}
use Rattle.rules.specs.Texts.{bytes}
use Rattle.rules.specs.Decimals.{is_digit, are_digits, value, figure, digits}
use Rattle.rules.specs.Display.{largest, size_of, component, permitted_normal, light, display}
use Rattle.rules.specs.Session.{parts, few_digits, within32, signed, number, next, only_these, question, three, counts, told_accepted, told_refused, told, reply, replies, session}

-- a session; a line of it, for the triangle vectors that its pick ends with, for its touch, or for the vectors of that, for its start check; a line and what else a walk is handed
-- beside the line's start: the apex, the level axes and the looks; whole numbers to display
data Case : Type 0 where
  prints corners touches guesses checks : String → Case
  walks : String → Vector → Levels → ℕ → Case
  shows : ℤ → ℤ → ℤ → Case

data Result : Type 0 where
  text : List ℕ → Result
  vectors : Triangle → Result
  guessed : Vector → ℕ → ℕ → Result
  refused : ℕ → Vector → ℕ → ℕ → Result
  readied : ReadyStart → Result
  shown : Display → Result
  none : Result

vectors_of : Pick → Result
vectors_of (Accepted a) = vectors a.triangle
vectors_of (Refused r) = none

corners_of : Line → Result
corners_of (Asks q) = vectors_of (pick_of (IsWedge q.wedge) [] q.p q.frame q.reach)
corners_of OtherForm = none

guess_of : Touch → Result
guess_of (Guess g) = let a = g.answer in guessed a.normal a.steps a.looks
guess_of (TouchRefused r) = refused r.number r.place r.steps r.looks

guess_vectors : Touch → Result
guess_vectors (Guess g) = vectors g.answer.triangle
guess_vectors (TouchRefused r) = none

touched_by : (Touch → Result) → Line → Result
touched_by result (Asks q) = result (touch_of (IsWedge q.wedge) [] q.p q.frame q.reach)
touched_by result OtherForm = none

checked_by : Check → Result
checked_by (Ready d) = readied d
checked_by (CheckRefused r) = refused r.number r.place r.steps r.looks

check_by : Line → Result
check_by (Asks q) = checked_by (check_of (IsWedge q.wedge) [] q.p q.frame q.reach)
check_by OtherForm = none

walk_by : Vector → Levels → ℕ → Line → Result
walk_by apex level looks (Asks q) = text (told (walk_of (IsWedge q.wedge) [] (ready_start q.p apex level looks) q.frame q.reach))
walk_by apex level looks OtherForm = none

run : Case → Result
run (prints input) = text (session (bytes input))
run (corners line) = corners_of (question (bytes line))
run (touches line) = touched_by guess_of (question (bytes line))
run (guesses line) = touched_by guess_vectors (question (bytes line))
run (checks line) = check_by (question (bytes line))
run (walks line apex level looks) = walk_by apex level looks (question (bytes line))
run (shows x y z) = shown (display x y z)

-- what the list expects: a text, the vectors (1,0,0), (-1,1,0), (-2,-1,1), a touch or a check refused at a place, a ready start of W1's
-- start and apex, or sizes over 32768
says : String → Result
says output = text (bytes output)

ends : Result
ends = vectors (triangle (vector (pos 1) (pos 0) (pos 0)) (vector (negsuc 0) (pos 1) (pos 0)) (vector (negsuc 1) (negsuc 0) (pos 1)))

stops : ℕ → ℕ → ℕ → ℕ → ℕ → ℕ → Result
stops number x y z steps looks = refused number (vector (pos x) (pos y) (pos z)) steps looks

at : ℕ → Vector
at k = vector (pos k) (pos k) (pos k)

hands : Levels → ℕ → Result
hands level looks = readied (ready_start (at 100) (at 101) level looks)

over : ℕ → ℕ → ℕ → Result
over a b c = shown (Lit record { x = rounded binary32 false a 32768; y = rounded binary32 false b 32768; z = rounded binary32 false c 32768 })

worked-cases :
    map run
    (prints "1 2 5 808 100 100 100 0 8\n"
    ∷ prints "1 2 5 801 100 100 100 0 8\n"
    ∷ prints "1 2 5 808 100 100 100 0 7\n"
    ∷ prints "1 1 1 303 100 100 100 0 3\n"
    ∷ prints "1 2 5 808 1 1 1 0 8\n"
    ∷ prints "0 1 1 202 100 100 100 0 8\n"
    ∷ prints "1 1 1 3 0 0 0 0 3\n"
    ∷ prints "-1 2 5 608 100 100 100 1 8\n"
    ∷ prints "0 1 1 202 100 100 100 0 2\n"
    ∷ prints "0 1 1 202 100 100 100 0 1\n"
    ∷ prints "1 1 1 303 100 100 100 0 2\n"
    ∷ prints "1 1 1 303 100 100 100 0 0\n"
    ∷ prints "0 0 1 101 100 100 100 0 1\n"
    ∷ prints "0 2 5 707 100 100 100 0 7\n"
    ∷ prints "2 4 0 601 100 100 100 0 3\n"
    ∷ prints "0 -1 2 101 100 100 100 0 8\n"
    ∷ prints "1 1 1 301 100 100 100 0 1\n"
    ∷ prints "0 1 1 202 0 100 100 0 8\n"
    ∷ corners "1 2 5 808 100 100 100 0 8"
    ∷ corners "1 2 5 801 100 100 100 0 8"
    ∷ shows (pos 1) (pos 2) (pos 5)
    ∷ shows (pos 1) (pos 1) (pos 1)
    ∷ prints ""
    ∷ prints "\n\n"
    ∷ prints "\n1 2 5 808 1 1 1 0 8"
    ∷ prints "01 2 5 0000000808 100 100 100 -0 8\n"
    ∷ prints "1 2 5 00000000808 100 100 100 0 8\n"
    ∷ prints "1 2 5 808 2147483647 -2147483648 1 0 8\n"
    ∷ prints "1 2 5 808 2147483648 0 1 0 8\n1 2 5 808 -2147483649 0 1 0 8"
    ∷ prints "1 2 5 808 1  1 1 0 8\n 1 2 5 808 1 1 1 0 8\n1 2 5 808 1 1 1 0 8 \n"
    ∷ prints "1 2 5 808 1 1 1 0 8\r\n+1 2 5 808 1 1 1 0 8\n1 2 5 808 1 1 1 - 8\n"
    ∷ prints "1 2 5 808 1 1 1 0\n1 2 5 808 1 1 1 0 8 9\n"
    ∷ touches "1 2 5 808 100 100 100 0 8"
    ∷ guesses "1 2 5 808 100 100 100 0 8"
    ∷ touches "1 2 5 807 100 100 100 0 8"
    ∷ touches "1 2 5 801 100 100 100 0 8"
    ∷ touches "1 1 1 303 100 100 100 0 3"
    ∷ touches "1 1 1 303 100 100 100 0 2"
    ∷ touches "0 1 1 202 100 100 100 0 8"
    ∷ touches "1 0 1 202 100 100 100 0 8"
    ∷ touches "1 1 0 202 100 100 100 0 8"
    ∷ touches "2 3 9 1413 100 100 100 0 14"
    ∷ touches "2 3 9 1414 100 100 100 0 14"
    ∷ touches "1 2 5 808 100 100 100 0 7"
    ∷ touches "-1 2 5 608 100 100 100 1 8"
    ∷ touches "1 1 1 3 0 0 0 0 3"
    ∷ touches "1 2 5 808 1 1 1 0 8"
    ∷ touches "2 2 3 706 100 100 100 0 7"
    ∷ touches "1 2 5 8 0 0 0 0 8"
    ∷ touches "1 1 1 303 100 100 100 0 0"
    ∷ checks "1 2 5 808 100 100 100 0 8"
    ∷ checks "0 1 1 202 100 100 100 0 8"
    ∷ checks "0 0 1 101 100 100 100 0 1"
    ∷ checks "1 2 5 808 1 1 1 0 8"
    ∷ checks "1 1 1 3 0 0 0 0 3"
    ∷ checks "0 1 1 202 0 100 100 0 8"
    ∷ checks "1 1 1 301 100 100 100 0 1"
    ∷ checks "1 2 5 808 100 100 100 0 257"
    ∷ walks "1 2 5 808 100 100 100 0 8" (at 101) none_level 5
    ∷ walks "1 2 5 808 100 100 100 0 8" (at 101) none_level 0
    ∷ walks "1 2 5 808 100 100 100 0 8" (at 101) none_level 26
    ∷ walks "1 2 5 808 100 100 100 0 8" (at 101) none_level 27
    ∷ walks "1 2 5 808 100 100 100 0 8" (at 101) (levels true true true) 5
    ∷ walks "1 2 5 808 -1 0 0 0 8" (at 101) none_level 99
    ∷ walks "1 2 5 808 100 100 100 0 8" (vector (pos 101) (pos 1024) (pos 101)) none_level 5
    ∷ walks "1 2 5 808 0 0 0 0 8" (at 101) none_level 5
    ∷ walks "1 2 5 808 100 100 100 0 8" (at 50) none_level 5
    ∷ walks "1 2 5 808 100 100 100 0 8" (at 101) (levels true true false) 5
    ∷ walks "1 2 5 808 100 100 100 0 8" (at 101) (levels true false false) 5
    ∷ walks "1 2 5 808 100 100 100 8 8" (at 101) (levels true true true) 900
    ∷ walks "1 2 5 808 100 100 100 1 8" (at 101) none_level 5
    ∷ walks "1 2 5 808 0 0 0 0 1" (at 0) (levels true false true) 8
    ∷ walks "1 2 5 808 0 0 0 0 1" (at 0) (levels true false true) 9
    ∷ walks "1 1 1 3 0 0 0 0 3" (at 1) none_level 5
    ∷ [])
    ≡ says "N 1 2 5 5 116\n"
    ∷ says "N 1 2 5 5 144\n"
    ∷ says "R 9 101 101 101 4 92\n"
    ∷ says "N 1 1 1 0 23\n"
    ∷ says "R 6 2 2 2 0 2\n"
    ∷ says "N 0 1 1 0 20\n"
    ∷ says "R 8 -1 3 1 0 6\n"
    ∷ says "N -1 2 5 5 116\n"
    ∷ says "N 0 1 1 0 12\n"
    ∷ says "R 10 101 101 101 0 8\n"
    ∷ says "R 10 101 101 101 0 17\n"
    ∷ says "R 1 0 0 0 0 0\n"
    ∷ says "N 0 0 1 0 7\n"
    ∷ says "N 0 2 5 3 35\n"
    ∷ says "N 1 2 0 1 25\n"
    ∷ says "R 7 101 100 101 0 15\n"
    ∷ says "R 7 100 101 101 0 8\n"
    ∷ says "R 8 -1 101 101 0 3\n"
    ∷ ends
    ∷ ends
    ∷ over 5982 11965 29912
    ∷ over 18918 18918 18918
    ∷ says ""
    ∷ says "B\nB\n"
    ∷ says "B\nR 6 2 2 2 0 2\n"
    ∷ says "N 1 2 5 5 116\n"
    ∷ says "B\n"
    ∷ says "R 4 2147483647 -2147483648 1 0 0\n"
    ∷ says "B\nB\n"
    ∷ says "B\nB\nB\n"
    ∷ says "B\nB\nB\n"
    ∷ says "B\nB\n"
    ∷ guessed (vector (pos 1) (pos 2) (pos 5)) 5 41
    ∷ ends
    ∷ stops 11 100 101 101 0 3
    ∷ stops 11 100 101 101 0 3
    ∷ guessed (vector (pos 1) (pos 1) (pos 1)) 0 11
    ∷ stops 10 101 101 101 0 11
    ∷ stops 11 100 101 101 0 3
    ∷ stops 11 101 100 101 0 4
    ∷ stops 11 101 101 100 0 5
    ∷ guessed (vector (pos 1) (pos 1) (pos 4)) 3 29
    ∷ guessed (vector (pos 2) (pos 3) (pos 9)) 7 53
    ∷ stops 9 101 101 101 4 35
    ∷ guessed (vector (negsuc 0) (pos 2) (pos 5)) 5 41
    ∷ guessed (vector (pos 1) (pos 1) (pos 1)) 0 11
    ∷ stops 6 2 2 2 0 2
    ∷ guessed (vector (pos 1) (pos 1) (pos 1)) 0 11
    ∷ refused 8 (vector (negsuc 0) (pos 2) (pos 1)) 1 11
    ∷ stops 1 0 0 0 0 0
    ∷ hands none_level 5
    ∷ hands (levels true false false) 12
    ∷ hands (levels true true false) 7
    ∷ stops 6 2 2 2 0 2
    ∷ readied (ready_start (at 0) (at 1) none_level 5)
    ∷ refused 8 (vector (negsuc 0) (pos 101) (pos 101)) 0 3
    ∷ stops 7 100 101 101 0 8
    ∷ stops 1 0 0 0 0 0
    ∷ says "N 1 2 5 5 116\n"
    ∷ says "N 1 2 5 5 111\n"
    ∷ says "N 1 2 5 5 137\n"
    ∷ says "R 13 0 0 0 0 0\n"
    ∷ says "R 13 0 0 0 0 0\n"
    ∷ says "R 4 -1 0 0 0 0\n"
    ∷ says "R 4 101 1024 101 0 0\n"
    ∷ says "N 1 2 5 5 116\n"
    ∷ says "R 9 50 50 50 5 41\n"
    ∷ says "N 0 0 1 0 5\n"
    ∷ says "N 0 2 5 3 28\n"
    ∷ says "R 2 0 0 0 0 0\n"
    ∷ says "R 9 101 101 101 5 101\n"
    ∷ says "N 0 1 0 0 8\n"
    ∷ says "R 13 0 0 0 0 0\n"
    ∷ says "R 8 -1 3 1 0 6\n"
    ∷ []
unfolding run bytes corners_of vectors_of guess_of guess_vectors touched_by checked_by check_by walk_by says ends stops at hands over ◌⊕◌ ◌⊖◌ minus scale dot cross det sphere lay size between permitted_wedge filled_wedge in_box look after ◌>>=◌ ensure sign signs seen asked powers_from powers normal all_level keep only remaining takes_part levelled determinant inside any_inside first_free choice look_at falls_at facing is_level axes start corners_filled all_corners quick_start falling round walk rounds found end is_inside placing judging check pick answer pick_of check_answer check_of is_ready readiness walk_on answer_from walk_answer walk_of touch marked touch_of is_digit are_digits value figure digits parts few_digits within32 signed number next only_these question three counts told_accepted told_refused told reply replies session largest size_of component permitted_normal light display
worked-cases = refl
