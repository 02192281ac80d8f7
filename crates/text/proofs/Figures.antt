-- Each way out of `put_number`: the one digit, or the digits of n / 10 and the last.
use Rattle.std.proofs.Common.{◌≡◌, sym, ap, ◌∙◌, [], ◌∷◌, ◌++◌, ℕ, ◌/◌, ◌≤◌, ◌<◌}
use Rattle.rules.specs.Decimals.{figure, decimal}
use Rattle.text.specs.declared.Writer.{Writer}
use Rattle.text.specs.Put.{Room, Put}
use Rattle.text.specs.Puts.{put_then, put_as, room-first, room-then, room_as}
use Rattle.text.specs.Decimals.{decimal-one, decimal-more}

module _ {n last : ℕ} (e : last ≡ figure n) where
  same-one : n < 10 → last ∷ [] ≡ decimal n
  same-one h = ap (λ (b : ℕ). b ∷ []) e ∙ sym (decimal-one n h)

  same_more : 10 ≤ n → decimal (n / 10) ++ (last ∷ []) ≡ decimal n
  same_more h = ap (λ (b : ℕ). decimal (n / 10) ++ (b ∷ [])) e ∙ sym (decimal-more n h)

  pub room-one : {u : Writer} → n < 10 → Room u (decimal n) → Room u (last ∷ [])
  room-one h r = room_as (same-one h) r

  pub put_one : {u v : Writer} → n < 10 → Put u (last ∷ []) v → Put u (decimal n) v
  put_one h p = put_as (same-one h) p

  pub room-more : {u : Writer} → 10 ≤ n → Room u (decimal n) → Room u (decimal (n / 10))
  room-more h r = room-first (decimal (n / 10)) (last ∷ []) (room_as (same_more h) r)

  module _ {u v : Writer} (h : 10 ≤ n) (p : Put u (decimal (n / 10)) v) where
    pub room-last : Room u (decimal n) → Room v (last ∷ [])
    room-last r = room-then (last ∷ []) (room_as (same_more h) r) p

    pub put_last : {w : Writer} → Put v (last ∷ []) w → Put u (decimal n) w
    put_last q = put_as (same_more h) (put_then p q)
