-- What a seat knows after each kind of step.
use Rattle.std.specs.Prelude.{ℕ, ◌+◌, ◌-◌, true, false, List, [], ◌∷◌, ◌++◌, Option, None}
use Rattle.esm_hlock.specs.declared.view.View.{View}
use Rattle.esm_hlock.specs.declared.view.Joined.{Joined}
use Rattle.esm_hlock.specs.Makers.{makers_of, added, number_after, numbers_after}
use Rattle.esm_hlock.specs.Views.{longer}

module _ {E : Type 0} where
  -- a seat that has been joined into another
  abbrev pub spent : View E
  spent = record {
    has_ticket = false;
    ticket = 0;
    has_state = false;
    seen = [];
    shares = 0;
    number = None;
    numbers = [];
    joined = [];
  }

  -- it waits with this ticket
  abbrev pub with_ticket : View E → ℕ → View E
  with_ticket v n = record {
    has_ticket = true;
    ticket = n;
    has_state = false;
    seen = v.seen;
    shares = v.shares;
    number = v.number;
    numbers = v.numbers;
    joined = [];
  }

  -- its ticket is served, and it has seen these entries
  abbrev pub with_state : View E → List E → View E
  with_state v entries = record {
    has_ticket = true;
    ticket = v.ticket;
    has_state = true;
    seen = entries;
    shares = v.shares;
    number = v.number;
    numbers = v.numbers;
    joined = [];
  }

  -- it has no ticket
  abbrev pub without_ticket : View E → View E
  without_ticket v = record {
    has_ticket = false;
    ticket = 0;
    has_state = false;
    seen = v.seen;
    shares = v.shares;
    number = v.number;
    numbers = v.numbers;
    joined = [];
  }

  -- it has one share fewer
  abbrev pub after_split : View E → View E
  after_split v = record {
    has_ticket = false;
    ticket = 0;
    has_state = false;
    seen = v.seen;
    shares = v.shares - 1;
    number = v.number;
    numbers = v.numbers;
    joined = [];
  }

  -- the new seat has that share
  abbrev pub split_off : View E → View E
  split_off v = record {
    has_ticket = false;
    ticket = 0;
    has_state = false;
    seen = v.seen;
    shares = 1;
    number = None;
    numbers = [];
    joined = [];
  }

  -- what is remembered of a seat that was joined
  abbrev pub joined_from : View E → Joined E
  joined_from v = record { seen = v.seen; numbers = v.numbers }

  -- one seat of two, with the first one's number
  abbrev pub after_join : View E → View E → View E
  after_join v w = record {
    has_ticket = false;
    ticket = 0;
    has_state = false;
    seen = longer v.seen w.seen;
    shares = v.shares + w.shares;
    number = v.number;
    numbers = v.numbers ++ w.numbers;
    joined = joined_from v ∷ joined_from w ∷ [];
  }

module _ {E : Type 0} (maker : E → Option ℕ) where
  -- the first seat of a lock
  abbrev pub newcomer : List E → View E
  newcomer entries = record {
    has_ticket = false;
    ticket = 0;
    has_state = false;
    seen = entries;
    shares = 1024;
    number = None;
    numbers = makers_of maker entries;
    joined = [];
  }

  -- it has the state, and its history is this one
  abbrev pub with_history : View E → List E → View E
  with_history v history = record {
    has_ticket = true;
    ticket = v.ticket;
    has_state = true;
    seen = history;
    shares = v.shares;
    number = number_after maker v.number (added v.seen history);
    numbers = numbers_after maker v.number v.numbers (added v.seen history);
    joined = [];
  }
