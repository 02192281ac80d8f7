-- The refusals 1 to 4, in their order, before any question: what each test makes of it.
use Rattle.std.specs.Prelude.{◌≡◌, Bool, true, false, List, ℕ, ℤ, pos}
use Rattle.std.proofs.Common.{sym, ◌∙◌}
use Rattle.rules.specs.declared.Vector.{Vector}
use Rattle.rules.specs.declared.Solid.{Solid}
use Rattle.rules.specs.Vectors.{origin}
use Rattle.rules.specs.Solids.{between, box, in_box, look}
use Rattle.rules.specs.Asked.{Asked, ◌>>◌}
use Rattle.rules.specs.Walk.{Stop, stop, ensure, Probe}
use Rattle.rules.specs.Pick.{is_inside, placing}
use Rattle.laws.specs.Boxes.{look-inside}
use Rattle.laws.specs.Tally.{Tally, yes, no, Gives, then-yes, then-no, ensured, not-ensured}

-- ---- refusals 1, 2, 3, and then the question `rest`
module _ (allowed : Bool) (frame reach : ℤ) {A : Type 0} (rest : Asked Stop A) where
  abbrev pub judgement : Asked Stop A
  judgement = do
    ensure (between (pos 1) reach (pos 256)) (stop 1 origin 0)
    ensure (between (pos 0) frame (pos 7)) (stop 2 origin 0)
    ensure allowed (stop 3 origin 0)
    rest

  pub reach-refused : between (pos 1) reach (pos 256) ≡ false → Gives 0 judgement (no (stop 1 origin 0) 0)
  reach-refused e = then-no _ (not-ensured e)

  module _ (a : between (pos 1) reach (pos 256) ≡ true) where
    pub frame_refused : between (pos 0) frame (pos 7) ≡ false → Gives 0 judgement (no (stop 2 origin 0) 0)
    frame_refused e = then-yes _ (ensured (stop 1 origin 0) a) (then-no _ (not-ensured e))

    module _ (b : between (pos 0) frame (pos 7) ≡ true) where
      pub solid-refused : allowed ≡ false → Gives 0 judgement (no (stop 3 origin 0) 0)
      solid-refused e = then-yes _ (ensured (stop 1 origin 0) a) (then-yes _ (ensured (stop 2 origin 0) b) (then-no _ (not-ensured e)))

      pub solid-permitted : {r : Tally Stop A} → allowed ≡ true → Gives 0 rest r → Gives 0 judgement r
      solid-permitted e h = then-yes _ (ensured (stop 1 origin 0) a) (then-yes _ (ensured (stop 2 origin 0) b) (then-yes _ (ensured (stop 3 origin 0) e) h))

-- ---- refusal 4
module _ (c : Probe) (p : Vector) where
  pub start-outside-box : is_inside (c.look p) ≡ false → Gives 0 (placing c p) (no (stop 4 p 0) 0)
  unfolding placing
  start-outside-box e = then-no _ (not-ensured e)

  module _ (a : is_inside (c.look p) ≡ true) where
    pub apex-outside-box : is_inside (c.look c.apex) ≡ false → Gives 0 (placing c p) (no (stop 4 c.apex 0) 0)
    unfolding placing
    apex-outside-box e = then-yes _ (ensured (stop 4 p 0) a) (not-ensured e)

    pub both-inside : is_inside (c.look c.apex) ≡ true → Gives 0 (placing c p) (yes tt 0)
    unfolding placing
    both-inside b = then-yes _ (ensured (stop 4 p 0) a) (ensured (stop 4 c.apex 0) b)

-- as the places are judged, by their box
pub inside_is : (solid : Solid) (bytes : List ℕ) {a q : Vector} {b t : Bool} → q ≡ a → b ≡ in_box (box solid) q → b ≡ t → is_inside (look solid bytes a) ≡ t
inside_is solid bytes {q = q} e h g = rw (← e) (look-inside solid bytes q ∙ sym h ∙ g)
