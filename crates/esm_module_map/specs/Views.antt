-- What a caller knows.
use Rattle.std.specs.Prelude.{◌≡◌, Bool, true, false, [], Option, Some, None}
use Rattle.atomic_table.specs.Seated.{TableId}
use Rattle.esm_hlock.specs.declared.pass.PassOf.{PassOf}
use Rattle.esm_hlock.specs.declared.view.View.{View}

-- own: what is known where there is no pass
abbrev pub no_view : {E : Type 0} → View E
no_view = record {
  has_ticket = false;
  ticket = 0;
  has_state = false;
  seen = [];
  shares = 0;
  number = None;
  numbers = [];
  joined = [];
}

module _ {T E : Type 0} where
  -- own: there is a pass
  abbrev pub is_there : Option (PassOf T E) → Bool
  is_there None = false
  is_there (Some p) = true

  -- own: what the pass knows
  abbrev pub view_in : Option (PassOf T E) → View E
  view_in None = no_view
  view_in (Some p) = p.seat.me.0

  -- the table that a pass is of
  abbrev pub table_of : TableId → Option (PassOf T E) → TableId
  table_of z None = z
  table_of z (Some p) = p.seat.table_id

-- the number, the shares and the list of numbers are as they were
abbrev pub Same : {E : Type 0} → View E → View E → Type 0
Same old new = (new.number ≡ old.number) × (new.shares ≡ old.shares) × (new.numbers ≡ old.numbers)
