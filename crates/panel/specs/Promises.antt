-- The promises of the panel's fourteen functions: each answer is the core's definition, flattened; a lent buffer holds what the core's promise says.
-- These are definitions: nothing here is proved.
use Rattle.std.specs.Prelude.{◌≡◌, List, [], ℕ, ℤ, length}
use Rattle.rules.specs.declared.Vector.{Vector}
use Rattle.rules.specs.declared.Wedge.{Wedge}
use Rattle.rules.specs.declared.Stack.{Stack}
use Rattle.rules.specs.declared.Solid.TheVariants.{Wedge as IsWedge, Stack as IsStack}
use Rattle.rules.specs.Pick.{pick_of}
use Rattle.rules.specs.Touch.{touch_of}
use Rattle.rules.specs.TwoCalls.{check_of, walk_of}
use Rattle.rules.specs.Lean.{lean_of}
use Rattle.rules.specs.Firm.{firm_of}
use Rattle.rules.specs.P4.{reading, writing, read_answer, write_answer, stored}
use Rattle.rules.specs.Display.{display}
use Rattle.flat.specs.declared.FlatPick.{FlatPick}
use Rattle.flat.specs.declared.FlatTouch.{FlatTouch}
use Rattle.flat.specs.declared.FlatReady.{FlatReady}
use Rattle.flat.specs.declared.FlatCheck.{FlatCheck}
use Rattle.flat.specs.declared.FlatLean.{FlatLean}
use Rattle.flat.specs.declared.FlatFirm.{FlatFirm}
use Rattle.flat.specs.declared.FlatReading.{FlatReading}
use Rattle.flat.specs.declared.FlatWriting.{FlatWriting}
use Rattle.flat.specs.declared.FlatDisplay.{FlatDisplay}
use Rattle.flat.specs.Flat.{flat_pick, handed_pick, flat_touch, ready_of, flat_check, flat_lean, flat_firm, flat_reading, flat_writing, flat_display}

abbrev pub wedge : ℤ → ℤ → ℤ → ℤ → Wedge
wedge a b c h = record { a = a; b = b; c = c; h = h }

abbrev pub stack : ℤ → ℤ → ℤ → Stack
stack width height depth = record { width = width; height = height; depth = depth }

pub record PickedWedge (w : Wedge) (p : Vector) (frame reach : ℤ) (r : FlatPick) : Type 0 where
  pub is : r ≡ flat_pick (pick_of (IsWedge w) [] p frame reach)

pub record PickedStack (k : Stack) (bytes : List ℕ) (p : Vector) (frame reach : ℤ) (r : FlatPick) : Type 0 where
  pub is : r ≡ flat_pick (pick_of (IsStack k) bytes p frame reach)

pub record TouchedWedge (w : Wedge) (p : Vector) (frame reach : ℤ) (r : FlatTouch) : Type 0 where
  pub is : r ≡ flat_touch (touch_of (IsWedge w) [] p frame reach)

pub record TouchedStack (k : Stack) (bytes : List ℕ) (p : Vector) (frame reach : ℤ) (r : FlatTouch) : Type 0 where
  pub is : r ≡ flat_touch (touch_of (IsStack k) bytes p frame reach)

pub record CheckedWedge (w : Wedge) (p : Vector) (frame reach : ℤ) (r : FlatCheck) : Type 0 where
  pub is : r ≡ flat_check (check_of (IsWedge w) [] p frame reach)

pub record CheckedStack (k : Stack) (bytes : List ℕ) (p : Vector) (frame reach : ℤ) (r : FlatCheck) : Type 0 where
  pub is : r ≡ flat_check (check_of (IsStack k) bytes p frame reach)

pub record WalkedWedge (w : Wedge) (ready : FlatReady) (frame reach : ℤ) (r : FlatPick) : Type 0 where
  pub is : r ≡ flat_pick (walk_of (IsWedge w) [] (ready_of ready) frame reach)

pub record WalkedStack (k : Stack) (bytes : List ℕ) (ready : FlatReady) (frame reach : ℤ) (r : FlatPick) : Type 0 where
  pub is : r ≡ flat_pick (walk_of (IsStack k) bytes (ready_of ready) frame reach)

pub record KnewLean (pick : FlatPick) (reach : ℤ) (r : FlatLean) : Type 0 where
  pub is : r ≡ flat_lean (lean_of (handed_pick pick) reach)

pub record FirmedWedge (w : Wedge) (pick : FlatPick) (frame reach : ℤ) (r : FlatFirm) : Type 0 where
  pub is : r ≡ flat_firm (firm_of (IsWedge w) [] (handed_pick pick) frame reach)

pub record FirmedStack (k : Stack) (bytes : List ℕ) (pick : FlatPick) (frame reach : ℤ) (r : FlatFirm) : Type 0 where
  pub is : r ≡ flat_firm (firm_of (IsStack k) bytes (handed_pick pick) frame reach)

pub record ReadP4 (src before after : List ℕ) (r : FlatReading) : Type 0 where
  pub answers : r ≡ flat_reading (read_answer (reading src (length before)))
  pub leaves : after ≡ stored (λ found. found.bytes) (reading src (length before)) before

pub record WroteP4 (k : Stack) (bytes before after : List ℕ) (r : FlatWriting) : Type 0 where
  pub answers : r ≡ flat_writing (write_answer (writing k bytes (length before)))
  pub leaves : after ≡ stored (λ written. written) (writing k bytes (length before)) before

pub record Displayed (nx ny nz : ℤ) (r : FlatDisplay) : Type 0 where
  pub is : r ≡ flat_display (display nx ny nz)
