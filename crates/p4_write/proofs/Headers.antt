-- The plain header, put part by part: after each part there is room for the next, and all parts in a row are the header.
use Rattle.std.proofs.Common.{List, [], ◌∷◌, ◌++◌, ℕ}
use Rattle.rules.specs.Decimals.{decimal}
use Rattle.rules.specs.P4.{plain_header}
use Rattle.text.specs.declared.Writer.{Writer}
use Rattle.text.specs.Put.{Room, Put}
use Rattle.text.specs.Puts.{put_then, room-first, room-then}

abbrev after-space : ℕ → List ℕ
after-space h = decimal h ++ (10 ∷ [])

abbrev after-width : ℕ → List ℕ
after-width h = 32 ∷ after-space h

abbrev after-magic : ℕ → ℕ → List ℕ
after-magic w h = decimal w ++ after-width h

module _ {u : Writer} (w h : ℕ) (R : Room u (plain_header w h)) where
  all : Room u ((80 ∷ 52 ∷ 10 ∷ []) ++ (after-magic w h))
  unfolding plain_header
  all = R

  pub room-magic : Room u (80 ∷ 52 ∷ 10 ∷ [])
  room-magic = room-first (80 ∷ 52 ∷ 10 ∷ []) (after-magic w h) all

  module _ {a : Writer} (A : Put u (80 ∷ 52 ∷ 10 ∷ []) a) where
    pub room-width : Room a (decimal w)
    room-width = room-first (decimal w) (after-width h) (room-then (after-magic w h) all A)

    module _ {b : Writer} (B : Put a (decimal w) b) where
      pub room-space : Room b (32 ∷ [])
      room-space = room-first (32 ∷ []) (after-space h) (room-then (after-width h) (room-then (after-magic w h) all A) B)

      module _ {c : Writer} (C : Put b (32 ∷ []) c) where
        rest : Room c (after-space h)
        rest = room-then {a = 32 ∷ []} (after-space h) (room-then (after-width h) (room-then (after-magic w h) all A) B) C

        pub room-height : Room c (decimal h)
        room-height = room-first (decimal h) (10 ∷ []) rest

        module _ {d : Writer} (D : Put c (decimal h) d) where
          -- for a byte, whatever it is
          pub room-end : (x : ℕ) → Room d (x ∷ [])
          room-end x = record { fits = (room-then (10 ∷ []) rest D).fits }

          pub header-put : {e : Writer} → Put d (10 ∷ []) e → Put u (plain_header w h) e
          unfolding plain_header
          header-put E = put_then A (put_then B (put_then {a = 32 ∷ []} C (put_then D E)))
