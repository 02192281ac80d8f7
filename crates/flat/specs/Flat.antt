-- The panel's C interface: each answer of the core as plain numbers. These are definitions: nothing here is proved.
use Rattle.std.specs.Prelude.{pos, nat_abs, Float, eqb, Bool, true, false, ℕ, ◌+◌, ◌*◌, ◌/◌, ◌%◌}
use Rattle.std.specs.Float.{fin}
use Rattle.rules.specs.declared.Levels.{Levels}
use Rattle.rules.specs.declared.ReadyStart.{ReadyStart}
use Rattle.rules.specs.Answers.{Check, Pick, Touch, Lean, Firm, Display, Reading, Writing}
use Rattle.std.specs.Prelude.{Ok as Ready, Err as CheckRefused, Ok as Accepted, Err as Refused, Ok as Guess, Err as TouchRefused, Ok as Known, Err as Unknown, Ok as Stands, Err as FirmRefused, Ok as Lit, Err as Unlit, Ok as Read, Err as Unread, Ok as Written, Err as Unwritten}
use Rattle.rules.specs.Vectors.{origin}
use Rattle.rules.specs.Walk.{triangle, levels}
use Rattle.flat.specs.declared.FlatPick.{FlatPick}
use Rattle.flat.specs.declared.FlatTouch.{FlatTouch}
use Rattle.flat.specs.declared.FlatReady.{FlatReady}
use Rattle.flat.specs.declared.FlatCheck.{FlatCheck}
use Rattle.flat.specs.declared.FlatLean.{FlatLean}
use Rattle.flat.specs.declared.FlatFirm.{FlatFirm}
use Rattle.flat.specs.declared.FlatReading.{FlatReading}
use Rattle.flat.specs.declared.FlatWriting.{FlatWriting}
use Rattle.flat.specs.declared.FlatDisplay.{FlatDisplay}

-- number 0: accepted, place 0 0 0. Refused: normal, m0, m1, m2, apex all zero
abbrev pub flat_pick : Pick → FlatPick
flat_pick (Accepted a) = record {
  number = 0;
  place = origin;
  steps = a.steps;
  looks = a.looks;
  normal = a.normal;
  m0 = a.triangle.m0;
  m1 = a.triangle.m1;
  m2 = a.triangle.m2;
  apex = a.apex;
}
flat_pick (Refused r) = record {
  number = r.number;
  place = r.place;
  steps = r.steps;
  looks = r.looks;
  normal = origin;
  m0 = origin;
  m1 = origin;
  m2 = origin;
  apex = origin;
}

-- as a host hands it back: by its number
unfoldable pub handed_pick : FlatPick → Pick
handed_pick r = elim (eqb r.number 0) [
  | true ↦ Accepted (record { normal = r.normal; triangle = triangle r.m0 r.m1 r.m2; apex = r.apex; steps = r.steps; looks = r.looks })
  | false ↦ Refused (record { number = r.number; place = r.place; steps = r.steps; looks = r.looks })
]

-- guess is 1 when number is 0, else 0; otherwise as a pick's
abbrev pub with_guess : ℕ → FlatPick → FlatTouch
with_guess guess r = record {
  number = r.number;
  guess = guess;
  place = r.place;
  steps = r.steps;
  looks = r.looks;
  normal = r.normal;
  m0 = r.m0;
  m1 = r.m1;
  m2 = r.m2;
  apex = r.apex;
}

abbrev pub flat_touch : Touch → FlatTouch
flat_touch (Guess g) = with_guess 1 (flat_pick (Accepted g.answer))
flat_touch (TouchRefused r) = with_guess 0 (flat_pick (Refused r))

-- ---- a ready start. Bit 0, 1, 2 of level: axis 0, 1, 2 is level
abbrev pub bit : Bool → ℕ
bit true = 1
bit false = 0

abbrev pub mask_of : Levels → ℕ
mask_of v = bit v.x + 2 * bit v.y + 4 * bit v.z

abbrev pub flat_ready : ReadyStart → FlatReady
flat_ready d = record { start = d.start; apex = d.apex; level = mask_of d.level; looks = d.looks }

-- as a host hands it back: higher bits are not looked at
abbrev pub levels_of : ℕ → Levels
levels_of mask = levels (eqb (mask % 2) 1) (eqb (mask / 2 % 2) 1) (eqb (mask / 4 % 2) 1)

abbrev pub ready_of : FlatReady → ReadyStart
ready_of r = record { start = r.start; apex = r.apex; level = levels_of r.level; looks = r.looks }

-- number 0: ready, place 0 0 0, looks the ready start's. Refused: the ready start all zero
abbrev pub no_ready : FlatReady
no_ready = record { start = origin; apex = origin; level = 0; looks = 0 }

abbrev pub flat_check : Check → FlatCheck
flat_check (Ready d) = record { number = 0; place = origin; looks = d.looks; ready = flat_ready d }
flat_check (CheckRefused r) = record { number = r.number; place = r.place; looks = r.looks; ready = no_ready }

-- ---- how far an accepted normal may lean, and how firm its footing is
-- number 0: known. Refused: part and whole 0
abbrev pub flat_lean : Lean → FlatLean
flat_lean (Known b) = record { number = 0; part = b.part; whole = b.whole }
flat_lean (Unknown r) = record { number = r.number; part = 0; whole = 0 }

-- number 0: place 0 0 0. Refused: number, place and looks, all else 0
abbrev pub flat_firm : Firm → FlatFirm
flat_firm (Stands f) = record { number = 0; place = origin; power = f.power; looks = f.looks; part = f.bound.part; whole = f.bound.whole }
flat_firm (FirmRefused r) = record { number = r.number; place = r.place; power = 0; looks = r.looks; part = 0; whole = 0 }

-- ---- the display normal, and P4 stacks
-- +0
abbrev pub plus_zero : Float
plus_zero = fin false 0 (pos 0)

-- number 0: lit. Refused: number 30, floats +0
abbrev pub flat_display : Display → FlatDisplay
flat_display (Lit l) = record { number = 0; x = l.x; y = l.y; z = l.z }
flat_display (Unlit r) = record { number = r.number; x = plus_zero; y = plus_zero; z = plus_zero }

-- number 0: sizes set, value 0. Refused: value is the number returned, sizes 0
abbrev pub flat_reading : Reading → FlatReading
flat_reading (Read k) = record { number = 0; value = 0; width = nat_abs k.width; height = nat_abs k.height; depth = nat_abs k.depth }
flat_reading (Unread r) = record { number = r.number; value = r.value; width = 0; height = 0; depth = 0 }

-- number 0: value is the bytes written; 27: bytes needed; 3: 0
abbrev pub flat_writing : Writing → FlatWriting
flat_writing (Written bytes) = record { number = 0; value = bytes }
flat_writing (Unwritten r) = record { number = r.number; value = r.value }
