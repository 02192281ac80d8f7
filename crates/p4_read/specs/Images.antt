-- What the reader's inner functions ask and answer. No public promise cites these.
use Rattle.std.specs.Prelude.{◌≡◌, List, [], ℕ, ◌*◌, ◌≤◌, length, Result, Ok}
use Rattle.rules.specs.declared.RefusedStack.{RefusedStack}
use Rattle.rules.specs.Answers.{refused_stack}
use Rattle.rules.specs.Solids.{slice_bytes}
use Rattle.rules.specs.P4.{Judged, good, wrong, header_at, image_at, images_at}
use Rattle.p4_header.specs.Reads.{judged_place}

-- ---- one image
pub record ImageIs (width height : ℕ) (s : List ℕ) (at : ℕ) (r : Result ℕ RefusedStack) : Type 0 where
  pub is : judged_place r ≡ image_at width height s at

-- ---- all images: how many they are judged to be, and their rows
abbrev pub depth_read : Judged (ℕ × List ℕ) → Result ℕ RefusedStack
depth_read (good f) = Ok f.0
depth_read (wrong n p) = refused_stack n p

abbrev pub rows_read : Judged (ℕ × List ℕ) → List ℕ
rows_read (good f) = f.1
rows_read (wrong n p) = []

pub record ImagesAre (width height : ℕ) (s : List ℕ) (r : Result ℕ RefusedStack) : Type 0 where
  pub is : r ≡ depth_read (images_at 256 width height s 0)

pub record StoreRoom (width height : ℕ) (s : List ℕ) (depth : ℕ) (out : List ℕ) : Type 0 where
  pub images : Ok depth ≡ depth_read (images_at 256 width height s 0)
  pub target : depth * slice_bytes width height ≤ length out

-- the first image has this size
pub record FirstSizes (s : List ℕ) (width height : ℕ) : Type 0 where
  pub next : ℕ
  pub is : header_at s 0 ≡ good (record { width = width; height = height; next = next })
