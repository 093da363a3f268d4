-- The indices at whose power of a base a list is ZERO, and a cursor over them.
--   is_root F p a i    whether p is ZERO at a^i
--   roots F p a n      the indices below n at which it is, ascending
--   Cursor             what a search has yet to try: the indices from the next one on, below the base's order
--   next_root F p c    the first of these at which p is ZERO
--   cursor_after c r   the cursor c after it has answered r
--   Seeks F a r        r is a cursor at the first index, refused for ZERO
use Rattle.std.specs.List.{range_with_len}
use Rattle.std.specs.Prelude.{◌≡◌, ℕ, ◌+◌, ◌-◌, Bool, not, List, filter, find, Option, None, Some, Ok, Err, Result}
use Rattle.algebra.specs.Field.{FieldOn, pow, HasOrder}
use Rattle.algebra.specs.Poly.{eval}
use Rattle.algebra.specs.Rows.{is_other}
use Rattle.fields.specs.declared.fault.FieldFault.TheVariants.{Zero}
use Rattle.lists.specs.declared.fault.ListFault.{ListFault}
use Rattle.lists.specs.declared.fault.ListFault.TheVariants.{Field}

pub record Cursor (A : Type 0) : Type 0 where
  pub base : A
  pub next : ℕ
  pub order : ℕ

-- a search goes on after the index that it found, and has ended where it found none; a refusal leaves it
abbrev pub cursor_after : {A : Type 0} → Cursor A → Result (Option ℕ) ListFault → Cursor A
cursor_after c (Ok (Some i)) = record { base = c.base; next = i + 1; order = c.order }
cursor_after c (Ok None) = record { base = c.base; next = c.order; order = c.order }
cursor_after c (Err e) = c

module _ {A : Type 0} (F : FieldOn A) where
  abbrev pub is_root : List A → A → ℕ → Bool
  is_root p a i = not (is_other F.dec_eq (eval F p (pow F a i)) F.𝟘)

  abbrev pub roots : List A → A → ℕ → List ℕ
  roots p a n = filter (is_root p a) (range_with_len 0 n)

  abbrev pub next_root : List A → Cursor A → Option ℕ
  next_root p c = find (is_root p c.base) (range_with_len c.next (c.order - c.next))

  abbrev pub Seeks : A → Result (Cursor A) ListFault → Type 0
  Seeks a (Ok c) = (c.base ≡ a) × (c.next ≡ 0) × HasOrder F a c.order
  Seeks a (Err e) = (a ≡ F.𝟘) × (e ≡ Field Zero)
