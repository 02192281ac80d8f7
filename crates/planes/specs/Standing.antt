-- The search of a footing, read backward: what an answer says of the voxels that were looked at, and how many they are; and forward: where all are filled it reaches its last power.
use Rattle.std.proofs.Math.Path.{◌≡◌, refl, ap}
use Rattle.std.proofs.Common.{subst, ◌∙◌, inl, inr, leb→le}
use Rattle.std.specs.Prelude.{◌⊎◌, Bool, ℕ, suc, ◌+◌, ◌*◌, ◌≤◌, T, leb, ℤ, pos, nat_abs}
use Rattle.std.proofs.Math.Bool.{true, false}
use mathlib.Core.List.{List, [], ◌∷◌, ◌++◌, map}
use Rattle.std.proofs.Math.Nat as NatL
use native.Mathlib.Omega.{arith}
use Rattle.std.proofs.Math.ListN.{length, length-append}
use Rattle.rules.specs.declared.Vector.{Vector}
use Rattle.rules.specs.declared.Look.{Look}
use Rattle.rules.specs.declared.Look.TheVariants.{Filled, Empty, Outside}
use Rattle.rules.specs.declared.Accepted.{Accepted as AcceptedPick}
use Rattle.rules.specs.Answers.{Pick}
use Rattle.std.specs.Prelude.{Ok as Accepted, Err as Refused, Ok as Stands}
use Rattle.rules.specs.declared.Bound.{Bound}
use Rattle.rules.specs.declared.Footing.{Footing}
use Rattle.rules.specs.Vectors.{◌⊕◌, scale, origin}
use Rattle.rules.specs.Solids.{between}
use Rattle.rules.specs.Asked.{Asked, answered, refused, after, ◌>>=◌}
use Rattle.rules.specs.Walk.{Stop, stop, ensure, signs, seen, asked, powers, keep, only, takes_part, look_at, Probe, facing}
use Rattle.rules.specs.Pick.{is_inside, probe_from, placing}
use Rattle.rules.specs.Lean.{levels_of, last, last_power, bound_at, measurable}
use Rattle.rules.specs.Firm.{all_ways, belongs, way_of, footing, stands, all_stand, firm_from, start_under, firm_under, firm_on, firm, firm_answer}
use Rattle.laws.specs.Tests.{Each, is_true}
use Rattle.range.specs.Ranges.{between-naturals}
use Rattle.laws.specs.Says.{Says, Few, says-answer, says-refuse, says-weaker, says-bind, few-bind, few-fewer, says_map, says-ensure}
use Rattle.laws.specs.Levels.{each_way, every-levels}
use Rattle.laws.specs.PickRule.{placing-says, facing-says}

module _ (look : Vector → Look) (p : Vector) where
  -- filled at l times each of these ways
  abbrev pub AllFilled : List Vector → ℕ → Type 0
  AllFilled us l = Each (λ u. look (p ⊕ scale (pos l) u) ≡ Filled) us

  -- ---- backward
  -- never refused
  abbrev Never : Stop → Type 0
  Never r = ⊥

  abbrev FilledIs : Look → Bool → Type 0
  FilledIs x true = x ≡ Filled
  FilledIs x false = x ≡ Filled → ⊥

  abbrev Stand : List Vector → ℕ → Bool → Type 0
  Stand us l true = AllFilled us l
  Stand us l false = AllFilled us l → ⊥

  stands-says : (x : Look) (v : Vector) → Says (Few 1 (FilledIs x)) (Few 1 Never) (stands x v)
  unfolding stands
  stands-says Filled v = record { of = record { holds = refl; few = omega arith } }
  stands-says Empty v = record { of = record { holds = λ e. let z : ◌≡◌ {A = ℕ} 0 1 = cc in omega arith; few = omega arith } }
  stands-says Outside v = record { of = record { holds = λ e. let z : ◌≡◌ {A = ℕ} 0 1 = cc in omega arith; few = omega arith } }

  all-stand-says : (l : ℕ) (us : List Vector) → Says (Few (length us) (Stand us l)) (Few (length us) Never) (all_stand look p l us)
  unfolding all_stand
  all-stand-says l [] = says-answer (record { holds = tt; few = omega arith })
  all-stand-says l (u ∷ us) =
      few-fewer _ (omega arith) (few-bind {M = 1} {N = length us} _ _ (stands-says (look (p ⊕ scale (pos l) u)) (p ⊕ scale (pos l) u)) (λ b e. go b e (all-stand-says l us)))
    where
      later : (b : Bool) → look (p ⊕ scale (pos l) u) ≡ Filled → Stand us l b → Stand (u ∷ us) l b
      later true e h = (e, h)
      later false e h = λ k. h k.1

      go : (b : Bool) → FilledIs (look (p ⊕ scale (pos l) u)) b → Says (Few (length us) (Stand us l)) (Few (length us) Never) (all_stand look p l us)
          → Says (Few (length us) (Stand (u ∷ us) l)) (Few (length us) Never) (elim b [ true ↦ all_stand look p l us | false ↦ answered false [] ])
      go true e r = says-weaker _ (λ b t h. record { holds = later b e h.holds; few = h.few }) (λ r t h. h) r
      go false e r = says-answer (record { holds = λ k. e k.0; few = omega arith })

  -- the last of these, F if there is none
  abbrev pub last_from : ℕ → List ℕ → ℕ
  last_from F [] = F
  last_from F (l ∷ ls) = last_from l ls

  -- done, at each of which all are filled; and left, at the first of which not all are
  pub record Reached (us : List Vector) (ls : List ℕ) (F G : ℕ) : Type 0 where
    pub done : List ℕ
    pub left : List ℕ
    pub split : ls ≡ done ++ left
    pub filled_there : Each (AllFilled us) done
    pub stops : (l : ℕ) (more : List ℕ) → left ≡ l ∷ more → AllFilled us l → ⊥
    pub power : G ≡ last_from F done

  firm-from-says : (us : List Vector) (F : ℕ) (ls : List ℕ) → Says (Few (length ls * length us) (Reached us ls F)) (Few (length ls * length us) Never) (firm_from look p F ls us)
  unfolding firm_from
  firm-from-says us F [] = says-answer (record { holds = record { done = []; left = []; split = refl; filled_there = tt; stops = λ l more e h. nil-cons e; power = refl }; few = omega arith })
    where
      nil-cons : {l : ℕ} {more : List ℕ} → [] ≡ l ∷ more → ⊥
      nil-cons e = let z : ◌≡◌ {A = ℕ} 0 1 = cc in omega arith
  firm-from-says us F (l ∷ ls) =
      few-fewer _ (omega (arith, NatL.suc-mul (length ls) (length us)))
      (few-bind {M = length us} {N = length ls * length us} _ _ (all-stand-says l us) (λ b h. go b h (firm-from-says us l ls)))
    where
      further : AllFilled us l → (G : ℕ) → Reached us ls l G → Reached us (l ∷ ls) F G
      further e G h = record { done = l ∷ h.done; left = h.left; split = ap (λ (ks : List ℕ). l ∷ ks) h.split; filled_there = (e, h.filled_there); stops = h.stops; power = h.power }

      here : (AllFilled us l → ⊥) → (k : ℕ) (more : List ℕ) → ◌≡◌ {A = List ℕ} (l ∷ ls) (k ∷ more) → AllFilled us k → ⊥
      here e k more q h = e (let z : k ≡ l = cc in subst (AllFilled us) z h)

      go : (b : Bool) → Stand us l b → Says (Few (length ls * length us) (Reached us ls l)) (Few (length ls * length us) Never) (firm_from look p l ls us)
          → Says (Few (length ls * length us) (Reached us (l ∷ ls) F)) (Few (length ls * length us) Never) (elim b [ true ↦ firm_from look p l ls us | false ↦ answered F [] ])
      go true e r = says-weaker _ (λ G t h. record { holds = further e G h.holds; few = h.few }) (λ r t h. h) r
      go false e r = says-answer (record { holds = record { done = []; left = l ∷ ls; split = refl; filled_there = tt; stops = here e; power = refl }; few = omega arith })

  pub last-is : (ls : List ℕ) → last_from 0 ls ≡ last ls
  unfolding last
  last-is [] = refl
  last-is (l ∷ []) = refl
  last-is (l ∷ k ∷ ks) = last-is (k ∷ ks)

  -- ---- forward
  all-stand : (l : ℕ) (us : List Vector) → AllFilled us l → (t : List Vector) × (all_stand look p l us ≡ answered true t) × (length t ≡ length us)
  unfolding all_stand stands after ◌>>=◌
  all-stand l [] h = ([], refl, refl)
  all-stand l (u ∷ us) h = let r = all-stand l us h.1 in ((p ⊕ scale (pos l) u) ∷ r.0, rw (h.0, r.1) refl, omega (arith, r.2))

  firm-all : (us : List Vector) (F : ℕ) (ls : List ℕ) → Each (AllFilled us) ls → (t : List Vector) × (firm_from look p F ls us ≡ answered (last_from F ls) t) × (length t ≡ length ls * length us)
  unfolding firm_from after ◌>>=◌
  firm-all us F [] h = ([], refl, omega arith)
  firm-all us F (l ∷ ls) h =
      let r = all-stand l us h.0 in let k = firm-all us l ls h.1 in
      (r.0 ++ k.0, rw (r.1, k.1) refl, omega (arith, length-append r.0 k.0, r.2, k.2, NatL.suc-mul (length ls) (length us)))

-- ---- six ways at most
length-map : {A B : Type 0} (f : A → B) (xs : List A) → length (map f xs) ≡ length xs
length-map f [] = refl
length-map f (x ∷ xs) = ap suc (length-map f xs)

pub few-ways : (s : Vector) (a : AcceptedPick) → length (footing s a) ≤ 6
unfolding footing each_way only keep takes_part
few-ways s a = rw (length-map (way_of s a.triangle) (only (belongs (levels_of a.normal)) all_ways)) (leb→le _ 6 (every-levels (λ v. leb (length (only (belongs v) all_ways)) 6) tt (levels_of a.normal)))

-- ---- the whole question, over any look
-- 1 to 6, or 35, with no step
pub record FirmRefusal (r : Stop) : Type 0 where
  pub known : ((1 ≤ r.number) × (r.number ≤ 6)) ⊎ (r.number ≡ 35)
  pub no_step : r.steps ≡ 0

module _ (ok : Bool) (look : Vector → Look) (frame reach : ℤ) where
  abbrev R : ℕ
  R = nat_abs reach

  abbrev s : Vector
  s = signs (nat_abs frame)

  -- of an accepted answer
  pub record Footed (a : AcceptedPick) (f : ℕ × Bound) : Type 0 where
    pub permitted_solid : T ok
    pub start_filled : look (start_under a.apex (signs (nat_abs frame))) ≡ Filled
    pub apex_empty : look a.apex ≡ Empty
    pub reached : Reached look (start_under a.apex (signs (nat_abs frame))) (footing (signs (nat_abs frame)) a) (powers (nat_abs reach)) 0 f.0
    pub is_bound : f.1 ≡ bound_at f.0 a

  abbrev FootedAs : Pick → ℕ × Bound → Type 0
  FootedAs (Accepted a) f = Footed a f
  FootedAs (Refused r) f = ⊥

  module _ (N : ℕ) (enough : R ≤ 256 → 2 + 6 * length (powers R) ≤ N) where
    early : {number : ℕ} {place : Vector} → (1 ≤ number) × (number ≤ 6) → (t : List Vector) → length t ≤ N → Few N FirmRefusal (stop number place 0) t
    early h t l = record { holds = record { known = inl h; no_step = refl }; few = l }

    unmeasured : Few N FirmRefusal (stop 35 origin 0) []
    unmeasured = record { holds = record { known = inr refl; no_step = refl }; few = omega arith }

    module _ (small : R ≤ 256) (permitted : T ok) (a : AcceptedPick) where
      abbrev p : Vector
      p = start_under a.apex s

      abbrev c : Probe
      c = probe_from look a.apex frame reach

      search-says : look p ≡ Filled → look a.apex ≡ Empty → Says (λ f t. Few N (Footed a) f (p ∷ a.apex ∷ t)) (λ r t. Few N FirmRefusal r (p ∷ a.apex ∷ t)) (firm_from look p 0 (powers R) (footing s a) >>= λ F. answered (F, bound_at F a) [])
      search-says e d =
          let K = length (powers R) in
          says_map _ (λ F. (F, bound_at F a)) (says-weaker _ (λ F t h. h) (λ r t h. absurd h.holds) (firm-from-says look p (footing s a) 0 (powers R))) (λ F t h.
          record { holds = record { permitted_solid = permitted; start_filled = e; apex_empty = d; reached = h.holds; is_bound = refl }; few = omega (arith, h.few, enough small, NatL.mul-le-mul_left K (few-ways s a), NatL.mul_comm K 6) })

      under-says : Says (Few N (Footed a)) (Few N FirmRefusal) (firm_under look frame reach a p)
      unfolding firm_under
      under-says =
          says-ensure _ _ _ (λ _. unmeasured) (λ _.
          says-bind {G = Few N FirmRefusal} _ _ (placing-says c p (λ _. early (omega arith, omega arith) [] (omega arith)) (λ _. early (omega arith, omega arith) [] (omega arith))) (λ r t k. k) (λ _ t h. rw h.2
          (says-bind {G = Few N FirmRefusal} _ _
          (facing-says c p h.0 h.1 (λ _. early (omega arith, omega arith) (p ∷ []) (omega (arith, enough small))) (λ _ _. early (omega arith, omega arith) (p ∷ a.apex ∷ []) (omega (arith, enough small)))) (λ r t k. k) (λ _ t k. rw k.2
          (search-says k.0 k.1)))))

    on-says : R ≤ 256 → T ok → (pick : Pick) → Says (Few N (FootedAs pick)) (Few N FirmRefusal) (firm_on look frame reach pick)
    on-says small permitted (Accepted a) = under-says small permitted a
    on-says small permitted (Refused r) = says-refuse unmeasured

    pub firm-says : (pick : Pick) → Says (Few N (FootedAs pick)) (Few N FirmRefusal) (firm ok look frame reach pick)
    unfolding firm
    firm-says pick =
        says-ensure _ _ _ (λ _. early (omega arith, omega arith) [] (omega arith)) (λ reached.
        says-ensure _ _ _ (λ _. early (omega arith, omega arith) [] (omega arith)) (λ _.
        says-ensure _ _ _ (λ _. early (omega arith, omega arith) [] (omega arith)) (λ permitted. on-says (between-naturals 1 256 reach reached).1 permitted pick)))

  -- ---- where nothing is refused
  module _ (a : AcceptedPick) (reached : T (between (pos 1) reach (pos 256))) (framed : T (between (pos 0) frame (pos 7))) (permitted : T ok) (measured : T (measurable a))
      (e : look (start_under a.apex s) ≡ Filled) (d : look a.apex ≡ Empty) where
    abbrev from : Vector
    from = start_under a.apex s

    -- the footing that the search gives
    stands_at : (F : ℕ) (t : List Vector) → firm_from look from 0 (powers R) (footing s a) ≡ answered F t → firm_answer (firm ok look frame reach (Accepted a)) ≡ Stands (record { power = F; looks = 2 + length t; bound = bound_at F a })
    unfolding firm_answer firm firm_under placing facing ensure asked look_at seen is_inside after ◌>>=◌
    stands_at F t h =
        rw (is_true (between (pos 1) reach (pos 256)) reached, is_true (between (pos 0) frame (pos 7)) framed, is_true ok permitted, is_true (measurable a) measured, e, d, h)
        (ap (λ (n : ℕ). Stands (record { power = F; looks = n; bound = bound_at F a })) (omega (arith, length-append t [])))

    -- it always gives one
    pub firm-stands : (f : Footing) × (firm_answer (firm ok look frame reach (Accepted a)) ≡ Stands f)
    firm-stands = go (firm_from look from 0 (powers R) (footing s a)) refl (firm-from-says look from (footing s a) 0 (powers R))
      where
        go : {Q : ℕ → List Vector → Type 0} {N : ℕ} (x : Asked Stop ℕ) → firm_from look from 0 (powers R) (footing s a) ≡ x → Says Q (Few N (λ r. ⊥)) x → (f : Footing) × (firm_answer (firm ok look frame reach (Accepted a)) ≡ Stands f)
        go (answered F t) k h = (_, stands_at F t k)
        go (refused r t) k h = absurd h.of.holds

    -- where all are filled at every power, to the last
    pub firm-full : Each (AllFilled look (start_under a.apex (signs (nat_abs frame))) (footing (signs (nat_abs frame)) a)) (powers (nat_abs reach))
        → firm_answer (firm ok look frame reach (Accepted a)) ≡ Stands (record { power = last_power R; looks = 2 + length (powers R) * length (footing s a); bound = bound_at (last_power R) a })
    unfolding last_power
    firm-full h =
        let r = firm-all look from (footing s a) 0 (powers R) h in
        stands_at _ r.0 r.1 ∙ rw (last-is look from (powers R)) (ap (λ (n : ℕ). Stands (record { power = last (powers R); looks = n; bound = bound_at (last (powers R)) a })) (omega (arith, r.2)))
