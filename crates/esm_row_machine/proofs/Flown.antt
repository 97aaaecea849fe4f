-- A throw under way: it leads to a handler, into a function that waited, or into the body.
use Rattle.std.proofs.Common.{◌≡◌, ◌<◌, ◌≤◌, ℕ, zero, suc, nat_eq, Bool, List, [], ◌∷◌, ◌++◌, length, take, Option, refl, ap, sym, subst, ◌∙◌, ◌⊎◌, inl, inr, arith}
use Rattle.std.proofs.lemmas.List.{append_assoc, append-nil}
use Rattle.std.specs.Prelude.{reverse, Result, Ok, Err}
use Rattle.esm_tree.specs.Syntax.{Item}
use Rattle.esm_env.specs.Modules.{Modules}
use Rattle.esm_values.specs.Code.{CodeValue, value_of, values_of, numbered}
use Rattle.esm_values.specs.declared.value.Value.{Value}
use Rattle.esm_expr_eval.specs.Terms.Term.{Fails, Waits}
use Rattle.esm_expr_eval.specs.Rewriting.{Rewrites as rewriting}
use Rattle.esm_rewriting.specs.State.{State, Importing}
use Rattle.esm_rewriting.specs.Segment.{Active, Segment}
use Rattle.esm_rewriting.specs.declared.stop.Stop.{Stop}
use Rattle.esm_rewriting.specs.declared.stop.Stop.TheVariants as stops
use Rattle.esm_row_laws.specs.Spots.{Posts, Handles, rounds_of, rounds_row}
use Rattle.esm_row_laws.specs.Places.{flat}
use Rattle.esm_row_laws.specs.Landings.{remains}
use Rattle.esm_row_laws.specs.Remaining.{plug}
use Rattle.esm_row_laws.proofs.Filling.{fill_of}
use Rattle.esm_row_laws.proofs.Landed as landed
use Rattle.esm_row_laws.proofs.Moves as moves
use Rattle.esm_row_machine.specs.Functions.{Here, Waiter, callers, caller}
use Rattle.esm_row_machine.specs.Stacks.{AreFrames, Waits as WaitsBy, names_on, names_under, operands_under, handlers_under, handlers_of}
use Rattle.esm_row_machine.specs.Outside.{AllKnown, KnowsIn, modules_in}
use Rattle.esm_row_machine.specs.Turns.{AreNamesKnown, Fits, ThrowsHere}
use Rattle.esm_row_machine.specs.Follows.{Flies, Proceeds, IsDone, Followed, Landed}
use Rattle.esm_row_machine.specs.declared.machine.Frame.{Frame}
use Rattle.esm_row_machine.specs.declared.machine.Handler.{Handler}
use Rattle.esm_row_machine.specs.declared.machine.Machine.{Machine}
use Rattle.esm_row_machine.specs.declared.runs.Next.{Next}
use Rattle.esm_row_machine.specs.declared.runs.Next.TheVariants as next
use Rattle.esm_row_machine.proofs.Told.{joined}
use Rattle.esm_row_machine.proofs.Going.{values_more, known_more}
use Rattle.esm_row_machine.proofs.Coming.{one_above, snoc_same, left_part}
use Rattle.esm_row_machine.proofs.RoundRows.{handler_at, LandsAt, NoneLands, lands, kont_ends}
use Rattle.esm_row_machine.proofs.Returned.{front_names, names_taken, last_waits, nobody_waits, Last}

-- ---- lists

longer_not_empty : {A : Type 0} (xs : List A) → length xs ≡ 0 → xs ≡ []
longer_not_empty [] e = refl
longer_not_empty (x ∷ xs) e = absurd (omega (arith, e))

front_values : (xs : List Value) (a b : List CodeValue) → values_of xs ≡ a ++ b → values_of (take (length a) xs) ≡ a
front_values xs [] b e = refl
front_values [] (x ∷ a) b e = absurd (cc)
front_values (y ∷ ys) (x ∷ a) b e = let f : values_of ys ≡ a ++ b = cc in let g : value_of y ≡ x = cc in λ i. g i ∷ front_values ys a b f i

values_taken : (K : CodeValue → Type 0) (n : ℕ) (xs : List Value) → AllKnown K (values_of xs) → AllKnown K (values_of (take n xs))
values_taken K zero xs h = tt
values_taken K (suc n) [] h = tt
values_taken K (suc n) (x ∷ xs) h = (h.0, values_taken K n xs h.1)

module _ {W S : Type 0} (state : W → State ℕ S) (modules : S → Modules ℕ) (linked : S → ℕ → Bool) (begins : Importing ℕ S)
    (Ready : W → Type 0) (Keeps : W → W → Type 0) (owns : S → ℕ → List (List ℕ)) where
  abbrev Tree : W → ℕ → List Item
  Tree w = (modules_in state modules linked begins Ready Keeps w).tree

  abbrev Known : W → CodeValue → Type 0
  Known w v = KnowsIn state modules linked begins Ready Keeps w v

  abbrev Fly : W → Here → List Waiter → Active ℕ → Frame → CodeValue → W → Machine → Type 0
  Fly w0 h ws body f v w s = Flies state modules linked begins Ready Keeps owns w0 h ws body f v w s

  abbrev Follow : W → Here → List Waiter → Active ℕ → Result Next Stop → W → Machine → Type 0
  Follow w h ws body result after late = Followed state modules linked begins Ready Keeps owns w h ws body result after late

  -- a function that throws
  pub throws_fly : (w0 : W) (h : Here) (ws : List Waiter) (body : Active ℕ) (f : Frame) (v : CodeValue) (w : W) (s : Machine) → ThrowsHere state modules linked begins Ready Keeps owns w0 f h ws v w s
      → Fly w0 h ws body f v w s
  throws_fly w0 h ws body f v w s t = record {
    home = h.at;
    number = h.function;
    rounds = t.rounds;
    vss = t.vss;
    rest = t.rest;
    mid = t.mid;
    waiters = ws;
    leads = λ how end seg. t.leads (callers modules begins ws ++ body ∷ []) how end seg;
    throws = t.throws;
    row = t.row;
    below = t.below;
    above = t.above;
    stacked = t.stacked;
    known = t.known;
    fits = t.fits;
    keeps = t.keeps;
  }

  module _ (w0 : W) (h : Here) (ws : List Waiter) (body : Active ℕ) (f : Frame) (v : Value) (w : W) (s : Machine) (fly : Fly w0 h ws body f (value_of v) w s) where
    abbrev Base : ℕ
    Base = length (names_under fly.waiters)

    own_handlers : handlers_of Base fly.rounds fly.vss ≡ [] → s.handlers.items ≡ handlers_under fly.waiters
    own_handlers e = fly.below.handlers ∙ ap (λ hs. handlers_under fly.waiters ++ hs) e ∙ append-nil (handlers_under fly.waiters)

    -- whether it has a handler, its own handlers tell
    pub none_lands : length s.handlers.items ≤ f.handlers → NoneLands Base fly.rounds fly.vss
    none_lands few = by (lands Base fly.rounds fly.vss fly.below.fit fly.below.rounds) where
      by : NoneLands Base fly.rounds fly.vss ⊎ LandsAt Base fly.rounds fly.vss → NoneLands Base fly.rounds fly.vss
      by (inl n) = n
      by (inr l) =
          let a = ap length fly.below.handlers in
          let b = joined (handlers_under fly.waiters) (handlers_of Base fly.rounds fly.vss) in
          let c = ap length l.on_top in
          let d = joined (handlers_of Base l.place.rounds l.place.names) (handler_at Base l.place ∷ []) in
          let e = fly.below.frame.handlers_below in
          absurd (omega (arith, a, b, c, d, e, few))

    some_lands : f.handlers < length s.handlers.items → LandsAt Base fly.rounds fly.vss
    some_lands many = by (lands Base fly.rounds fly.vss fly.below.fit fly.below.rounds) where
      by : NoneLands Base fly.rounds fly.vss ⊎ LandsAt Base fly.rounds fly.vss → LandsAt Base fly.rounds fly.vss
      by (inr l) = l
      by (inl n) =
          let a = ap length (own_handlers n.empty) in
          let e = fly.below.frame.handlers_below in
          absurd (omega (arith, a, e, many))

    -- ---- into the handler

    module _ (late : Machine) (hd : Handler) (handlers : s.handlers.items ≡ late.handlers.items ++ hd ∷ []) (names : late.names.items ≡ take hd.names s.names.items) (frames : late.frames.items ≡ s.frames.items)
        (operands : late.operands.items ≡ take f.operands s.operands.items ++ v ∷ []) (l : LandsAt Base fly.rounds fly.vss) where
      top_is : (late.handlers.items ≡ handlers_under fly.waiters ++ handlers_of Base l.place.rounds l.place.names) × (hd ≡ handler_at Base l.place)
      top_is = snoc_same late.handlers.items (handlers_under fly.waiters ++ handlers_of Base l.place.rounds l.place.names) hd (handler_at Base l.place)
          (sym handlers ∙ fly.below.handlers ∙ ap (λ hs. handlers_under fly.waiters ++ hs) l.on_top ∙ sym (append_assoc (handlers_under fly.waiters) (handlers_of Base l.place.rounds l.place.names) (handler_at Base l.place ∷ [])))

      names_there : names_on late.names.items ≡ names_under fly.waiters ++ flat l.place.names
      names_there =
          let whole : names_on s.names.items ≡ (names_under fly.waiters ++ flat l.place.names) ++ l.others = fly.below.names ∙ ap (λ us. names_under fly.waiters ++ us) l.outside ∙ sym (append_assoc (names_under fly.waiters) (flat l.place.names) l.others) in
          let many : hd.names ≡ length (names_under fly.waiters ++ flat l.place.names) = ap (λ (q : Handler). q.names) top_is.1 ∙ sym (joined (names_under fly.waiters) (flat l.place.names)) in
          ap (λ (xs : List (Option Value)). names_on xs) names ∙ ap (λ n. names_on (take n s.names.items)) many ∙ front_names s.names.items (names_under fly.waiters ++ flat l.place.names) l.others whole

      operands_there : values_of (take f.operands s.operands.items) ≡ operands_under fly.waiters
      operands_there = ap (λ n. values_of (take n s.operands.items)) fly.below.frame.operands_below ∙ front_values s.operands.items (operands_under fly.waiters) fly.above fly.stacked

      pub to_handler : (g : Frame) → g ≡ record f { left = hd.left } → Proceeds state modules linked begins Ready Keeps owns w0 h ws body g w late
      to_handler g same = subst (λ q. Proceeds state modules linked begins Ready Keeps owns w0 h ws body q w late) (sym same) (record {
        there = record { at = fly.home; function = fly.number; spot = Handles l.place.caught l.place.handler l.place.behind l.place.rounds; names = l.place.names; operands = value_of v ∷ [] };
        waiters = fly.waiters;
        stands = record {
          stands = record {
            below = record {
              names = names_there;
              handlers = top_is.0;
              frames = subst (λ (fs : List Frame). AreFrames (Tree w) fs fly.waiters) (sym frames) fly.below.frames;
              frame = record {
                home = fly.below.frame.home;
                number = fly.below.frame.number;
                names_below = fly.below.frame.names_below;
                operands_below = fly.below.frame.operands_below;
                handlers_below = fly.below.frame.handlers_below;
              };
              fit = l.fit;
              rounds = l.of_function;
            };
            operands = ap values_of operands ∙ one_above (operands_under fly.waiters) v [] (take f.operands s.operands.items) (operands_there ∙ sym (append-nil (operands_under fly.waiters)));
            room = refl;
            place = left_part l.ends fly.row hd.left (ap (λ (q : Handler). q.left) top_is.1);
          };
          fits = record {
            is_ready = fly.fits.is_ready;
            home = fly.fits.home;
            homes = fly.fits.homes;
            operands = subst (λ (vs : List Value). AllKnown (Known w) (values_of vs)) (sym operands)
                (subst (λ (vs : List CodeValue). AllKnown (Known w) vs) (sym (values_more (take f.operands s.operands.items) (v ∷ []))) (known_more (Known w) (values_of (take f.operands s.operands.items)) (value_of v ∷ []) (values_taken (Known w) f.operands s.operands.items fly.fits.operands) (fly.known, tt)));
            names = subst (λ (xs : List (Option Value)). AreNamesKnown (Known w) xs) (sym names) (names_taken (Known w) hd.names s.names.items fly.fits.names);
          };
        };
        leads = λ how end seg. fly.leads how end (landed.caught modules begins fly.home (value_of v) fly.rounds fly.vss fly.mid (state w) fly.rest l.place fly.throws l.is (callers modules begins fly.waiters ++ body ∷ []) how end seg);
        keeps = fly.keeps;
      })

    -- ---- out of the function

    -- into the body
    pub out_of_all : NoneLands Base fly.rounds fly.vss → s.frames.items ≡ [] → IsDone state modules linked begins Ready Keeps owns w0 h ws body (Fails (value_of v)) (value_of v) w
    out_of_all n none =
        let e : fly.waiters ≡ [] = nobody_waits (Tree w) s.frames.items fly.waiters fly.below.frames none in
        record {
          leads = λ how end seg. fly.leads how end (subst (λ (us : List Waiter). Segment nat_eq modules begins fly.mid fly.home (remains modules begins fly.rounds fly.vss fly.rest) (callers modules begins us ++ body ∷ []) how end) (sym e)
              (landed.leaves modules begins fly.home (value_of v) fly.rounds fly.vss fly.mid (state w) fly.rest fly.throws n.is body [] how end seg));
          known = fly.known;
          is_ready = fly.fits.is_ready;
          keeps = fly.keeps;
        }

    module _ (n : NoneLands Base fly.rounds fly.vss) (late : Machine) (g : Frame) (frames : s.frames.items ≡ late.frames.items ++ g ∷ []) (names : late.names.items ≡ take f.names s.names.items)
        (handlers : late.handlers.items ≡ s.handlers.items) (operands : late.operands.items ≡ s.operands.items) where
      abbrev last : Last (Tree w) late.frames.items g fly.waiters
      last = last_waits (Tree w) s.frames.items fly.waiters fly.below.frames late.frames.items g frames

      names_left : names_on late.names.items ≡ names_under fly.waiters
      names_left =
          ap (λ (xs : List (Option Value)). names_on xs) names ∙ ap (λ n. names_on (take n s.names.items)) fly.below.frame.names_below ∙ front_names s.names.items (names_under fly.waiters) (flat fly.vss) fly.below.names

      by_last : (a : Waiter) (others : List Waiter) → fly.waiters ≡ a ∷ others → AreFrames (Tree w) late.frames.items others → WaitsBy (Tree w) g a others → Fly w0 h ws body g (value_of v) w late
      by_last a others e fs k =
          let homes = subst (λ (us : List Waiter). Fits state modules linked begins Ready Keeps owns w s fly.home us) e fly.fits in
          record {
            home = a.at;
            number = a.function;
            rounds = rounds_of a.kont;
            vss = a.names;
            rest = plug numbered (Posts a.links a.kont) a.operands (Fails (value_of v));
            mid = state w;
            waiters = others;
            leads = λ how end seg. fly.leads how end (subst (λ (us : List Waiter). Segment nat_eq modules begins fly.mid fly.home (remains modules begins fly.rounds fly.vss fly.rest) (callers modules begins us ++ body ∷ []) how end) (sym e)
                (landed.leaves modules begins fly.home (value_of v) fly.rounds fly.vss fly.mid (state w) fly.rest fly.throws n.is (caller modules begins a) (callers modules begins others ++ body ∷ []) how end
                (subst (λ r. Segment nat_eq modules begins (state w) a.at r (callers modules begins others ++ body ∷ []) how end) (sym (fill_of (Fails (value_of v)) (Posts a.links a.kont) a.names a.operands Waits)) seg)));
            throws = moves.throws modules begins a.at (Posts a.links a.kont) a.names a.operands k.room (state w) (state w) (Fails (value_of v)) (value_of v) rewriting.fails;
            row = left_part (kont_ends (Posts a.links a.kont)) k.place (length (rounds_row (rounds_of a.kont))) refl;
            below = record {
              names = names_left ∙ ap names_under e;
              handlers = handlers ∙ own_handlers n.empty ∙ ap handlers_under e;
              frames = fs;
              frame = k.frame;
              fit = k.fit;
              rounds = k.rounds;
            };
            above = reverse a.operands ++ fly.above;
            stacked = ap values_of operands ∙ fly.stacked ∙ ap (λ (us : List Waiter). operands_under us ++ fly.above) e ∙ append_assoc (operands_under others) (reverse a.operands) fly.above;
            known = fly.known;
            fits = record {
              is_ready = homes.is_ready;
              home = homes.homes.0;
              homes = homes.homes.1;
              operands = subst (λ (vs : List Value). AllKnown (Known w) (values_of vs)) (sym operands) homes.operands;
              names = subst (λ (xs : List (Option Value)). AreNamesKnown (Known w) xs) (sym names) (names_taken (Known w) f.names s.names.items homes.names);
            };
            keeps = fly.keeps;
          }

      pub out_of_one : Fly w0 h ws body g (value_of v) w late
      out_of_one = by_last last.waiter last.others last.all last.frames last.waits

    -- what follows where it leads to a handler
    pub lands_there : f.handlers < length s.handlers.items → (late : Machine) (result : Result Next Stop) → Landed s f v result late → Follow w0 h ws body result w late
    lands_there many late (Ok (next.Goes g)) p = to_handler late p.handler p.handlers p.names p.frames p.operands (some_lands many) g p.goes
    lands_there many late (Ok (next.Gave u)) p = absurd p
    lands_there many late (Ok (next.Thrown u)) p = absurd p
    lands_there many late (Err (stops.Limit why)) p = absurd p
    lands_there many late (Err stops.Memory) p = tt

  -- a throw is under way, up to this function
  abbrev pub Flying : W → Machine → Frame → Value → Frame → Machine → Type 0
  Flying w s f v g late = (w0 : W) (h : Here) (ws : List Waiter) (body : Active ℕ) → Fly w0 h ws body f (value_of v) w s → Fly w0 h ws body g (value_of v) w late
