-- Each promise of the panel's functions settles the answer and the lent buffer.
use Rattle.std.specs.Prelude.{◌≡◌, List, ℕ, ℤ}
use Rattle.std.proofs.Common.{sym, ◌∙◌}
use Rattle.rules.specs.declared.Vector.{Vector}
use Rattle.rules.specs.declared.Wedge.{Wedge}
use Rattle.rules.specs.declared.Stack.{Stack}
use Rattle.flat.specs.declared.FlatPick.{FlatPick}
use Rattle.flat.specs.declared.FlatTouch.{FlatTouch}
use Rattle.flat.specs.declared.FlatReady.{FlatReady}
use Rattle.flat.specs.declared.FlatCheck.{FlatCheck}
use Rattle.flat.specs.declared.FlatLean.{FlatLean}
use Rattle.flat.specs.declared.FlatFirm.{FlatFirm}
use Rattle.flat.specs.declared.FlatReading.{FlatReading}
use Rattle.flat.specs.declared.FlatWriting.{FlatWriting}
use Rattle.flat.specs.declared.FlatDisplay.{FlatDisplay}
use Rattle.panel.specs.Promises.{PickedWedge, PickedStack, TouchedWedge, TouchedStack, CheckedWedge, CheckedStack, WalkedWedge, WalkedStack, KnewLean, FirmedWedge, FirmedStack, ReadP4, WroteP4, Displayed}

pub picked-wedge-settled : {w : Wedge} {p : Vector} {frame reach : ℤ} {a b : FlatPick} → PickedWedge w p frame reach a → PickedWedge w p frame reach b → a ≡ b
picked-wedge-settled h k = h.is ∙ sym k.is

pub picked-stack-settled : {s : Stack} {bytes : List ℕ} {p : Vector} {frame reach : ℤ} {a b : FlatPick} → PickedStack s bytes p frame reach a → PickedStack s bytes p frame reach b → a ≡ b
picked-stack-settled h k = h.is ∙ sym k.is

pub touched-wedge-settled : {w : Wedge} {p : Vector} {frame reach : ℤ} {a b : FlatTouch} → TouchedWedge w p frame reach a → TouchedWedge w p frame reach b → a ≡ b
touched-wedge-settled h k = h.is ∙ sym k.is

pub touched-stack-settled : {s : Stack} {bytes : List ℕ} {p : Vector} {frame reach : ℤ} {a b : FlatTouch} → TouchedStack s bytes p frame reach a → TouchedStack s bytes p frame reach b → a ≡ b
touched-stack-settled h k = h.is ∙ sym k.is

pub checked-wedge-settled : {w : Wedge} {p : Vector} {frame reach : ℤ} {a b : FlatCheck} → CheckedWedge w p frame reach a → CheckedWedge w p frame reach b → a ≡ b
checked-wedge-settled h k = h.is ∙ sym k.is

pub checked-stack-settled : {s : Stack} {bytes : List ℕ} {p : Vector} {frame reach : ℤ} {a b : FlatCheck} → CheckedStack s bytes p frame reach a → CheckedStack s bytes p frame reach b → a ≡ b
checked-stack-settled h k = h.is ∙ sym k.is

pub walked-wedge-settled : {w : Wedge} {d : FlatReady} {frame reach : ℤ} {a b : FlatPick} → WalkedWedge w d frame reach a → WalkedWedge w d frame reach b → a ≡ b
walked-wedge-settled h k = h.is ∙ sym k.is

pub walked-stack-settled : {s : Stack} {bytes : List ℕ} {d : FlatReady} {frame reach : ℤ} {a b : FlatPick} → WalkedStack s bytes d frame reach a → WalkedStack s bytes d frame reach b → a ≡ b
walked-stack-settled h k = h.is ∙ sym k.is

pub knew-lean-settled : {pick : FlatPick} {reach : ℤ} {a b : FlatLean} → KnewLean pick reach a → KnewLean pick reach b → a ≡ b
knew-lean-settled h k = h.is ∙ sym k.is

pub firmed-wedge-settled : {w : Wedge} {pick : FlatPick} {frame reach : ℤ} {a b : FlatFirm} → FirmedWedge w pick frame reach a → FirmedWedge w pick frame reach b → a ≡ b
firmed-wedge-settled h k = h.is ∙ sym k.is

pub firmed-stack-settled : {s : Stack} {bytes : List ℕ} {pick : FlatPick} {frame reach : ℤ} {a b : FlatFirm} → FirmedStack s bytes pick frame reach a → FirmedStack s bytes pick frame reach b → a ≡ b
firmed-stack-settled h k = h.is ∙ sym k.is

pub read-p4-settled : {src before a b : List ℕ} {q r : FlatReading} → ReadP4 src before a q → ReadP4 src before b r → (q ≡ r) × (a ≡ b)
read-p4-settled h k = (h.answers ∙ sym k.answers, h.leaves ∙ sym k.leaves)

pub wrote-p4-settled : {s : Stack} {bytes before a b : List ℕ} {q r : FlatWriting} → WroteP4 s bytes before a q → WroteP4 s bytes before b r → (q ≡ r) × (a ≡ b)
wrote-p4-settled h k = (h.answers ∙ sym k.answers, h.leaves ∙ sym k.leaves)

pub displayed-settled : {x y z : ℤ} {a b : FlatDisplay} → Displayed x y z a → Displayed x y z b → a ≡ b
displayed-settled h k = h.is ∙ sym k.is
