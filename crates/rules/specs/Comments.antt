-- Stacks whose comments touch (document 02's 2026-02): one statement over a list, by evaluation. Apart from the other cases, so that it rests on the rules of P4 alone.
use Rattle.std.specs.Prelude.{◌≡◌, refl, List, [], ◌∷◌, map, ℕ}
use Prim.Native.String.{String}
use Rattle.rules.specs.Solids.{row_bytes, slice_bytes}
use Rattle.rules.specs.Texts.{bytes}
use Rattle.rules.specs.Decimals.{is_digit, are_digits, value}
use Rattle.rules.specs.P4.{Judged, good, wrong, ◌>>=◌, judge, stands, is_end, is_white, comment_at, white, mix, digits_at, field_at, header_at, padding, cut, row, rows, image_at, images_at, sizes, Contents, contents}

reads : String → Judged Contents
reads input = contents (bytes input)

-- a stack's sizes and rows, or a refusal
holds : ℕ → ℕ → ℕ → List ℕ → Judged Contents
holds width height depth rows = good (record { stack = sizes width height depth; bytes = rows })

refuses : ℕ → ℕ → Judged Contents
refuses number place = wrong number place

touching-comments :
    map reads
    ("P4#c\n3 2\n\u{a0}@"
    ∷ "P4#c\r3 2\n\u{a0}@"
    ∷ "P4\n3#w\n2\n\u{a0}@"
    ∷ "P4\n3#w\n#x\n 2#h\n\u{a0}@"
    ∷ "P4#a\n#b\n\t3 2\n\u{a0}@"
    ∷ "P4\n3 2##\n\u{a0}@"
    ∷ "P4\n3#2\n2#\n\u{a0}@"
    ∷ "P4\n3 2#h\r\n@"
    ∷ "P4\n3 2 #h\n"
    ∷ "P4#"
    ∷ "P4#c"
    ∷ "P4\n3 2#h"
    ∷ "P4\n0#w"
    ∷ "P4\n0#w\n"
    ∷ "P4\n300#w\n2#h\n"
    ∷ "P4#a\nx"
    ∷ "P4x"
    ∷ "P4\n3 2#h\n\u{a0}"
    ∷ "P4\n3 2#h\n\u{a0}@P4#z\n3#\n2#\n À"
    ∷ [])
    ≡ holds 3 2 1 (160 ∷ 64 ∷ [])
    ∷ holds 3 2 1 (160 ∷ 64 ∷ [])
    ∷ holds 3 2 1 (160 ∷ 64 ∷ [])
    ∷ holds 3 2 1 (160 ∷ 64 ∷ [])
    ∷ holds 3 2 1 (160 ∷ 64 ∷ [])
    ∷ holds 3 2 1 (160 ∷ 64 ∷ [])
    ∷ holds 3 2 1 (160 ∷ 64 ∷ [])
    ∷ holds 3 2 1 (0 ∷ 64 ∷ [])
    ∷ refuses 21 9
    ∷ refuses 22 3
    ∷ refuses 22 4
    ∷ refuses 22 8
    ∷ refuses 22 6
    ∷ refuses 23 3
    ∷ refuses 23 3
    ∷ refuses 22 5
    ∷ refuses 22 2
    ∷ refuses 25 10
    ∷ holds 3 2 2 (160 ∷ 64 ∷ 32 ∷ 192 ∷ [])
    ∷ []
unfolding reads bytes holds refuses row_bytes slice_bytes is_digit are_digits value ◌>>=◌ judge stands is_end is_white comment_at white mix digits_at field_at header_at padding cut row rows image_at images_at contents
touching-comments = refl
