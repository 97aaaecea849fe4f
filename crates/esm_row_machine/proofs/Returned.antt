-- A function is over: its value is given to the function that waited, or to the body.
use Rattle.std.proofs.Common.{◌≡◌, ℕ, zero, suc, nat_eq, Bool, List, [], ◌∷◌, ◌++◌, length, take, Option, refl, ap, sym, subst, ◌∙◌, arith}
use Rattle.std.specs.Prelude.{Result, Ok, Err}
use Rattle.esm_tree.specs.Syntax.{Item}
use Rattle.esm_env.specs.Modules.{Modules}
use Rattle.esm_values.specs.Code.{CodeValue, value_of, values_of}
use Rattle.esm_values.specs.declared.value.Value.{Value}
use Rattle.esm_expr_eval.specs.Terms.Term.{Val, Waits}
use Rattle.esm_rewriting.specs.State.{State, Importing}
use Rattle.esm_rewriting.specs.Segment.{Active, Segment}
use Rattle.esm_rewriting.specs.declared.stop.Stop.{Stop}
use Rattle.esm_rewriting.specs.declared.stop.Stop.TheVariants as stops
use Rattle.esm_row_laws.specs.Spots.{Posts, Has}
use Rattle.esm_row_laws.specs.Places.{flat}
use Rattle.esm_row_laws.proofs.Filling.{fill_of}
use Rattle.esm_row_machine.specs.Functions.{Here, Waiter, callers, caller}
use Rattle.esm_row_machine.specs.Stacks.{AreFrames, none_waits, one_waits, Waits as WaitsBy, names_on, name_value, names_under, operands_under, handlers_under, handlers_of}
use Rattle.esm_row_machine.specs.Outside.{AllKnown, KnowsIn, modules_in}
use Rattle.esm_row_machine.specs.Turns.{AreNamesKnown, Fits, GivesBack}
use Rattle.esm_row_machine.specs.Follows.{GivenTo, SegmentOf, Proceeds, Followed}
use Rattle.esm_row_machine.specs.declared.machine.Frame.{Frame}
use Rattle.esm_row_machine.specs.declared.machine.Machine.{Machine}
use Rattle.esm_row_machine.specs.declared.runs.Next.{Next}
use Rattle.esm_row_machine.specs.declared.runs.Next.TheVariants as next
use Rattle.esm_row_machine.proofs.Going.{values_more, known_more}
use Rattle.esm_row_machine.proofs.Coming.{one_above, snoc_same}

-- ---- lists

pub front : {A : Type 0} (xs a b : List A) → xs ≡ a ++ b → take (length a) xs ≡ a
front xs [] b e = refl
front [] (x ∷ a) b e = absurd (cc)
front (y ∷ ys) (x ∷ a) b e = let f : ys ≡ a ++ b = cc in let g : y ≡ x = cc in λ i. g i ∷ front ys a b f i

pub front_names : (xs : List (Option Value)) (a b : List (Option CodeValue)) → names_on xs ≡ a ++ b → names_on (take (length a) xs) ≡ a
front_names xs [] b e = refl
front_names [] (x ∷ a) b e = absurd (cc)
front_names (y ∷ ys) (x ∷ a) b e = let f : names_on ys ≡ a ++ b = cc in let g : name_value y ≡ x = cc in λ i. g i ∷ front_names ys a b f i

pub names_taken : (K : CodeValue → Type 0) (n : ℕ) (xs : List (Option Value)) → AreNamesKnown K xs → AreNamesKnown K (take n xs)
names_taken K zero xs h = tt
names_taken K (suc n) [] h = tt
names_taken K (suc n) (x ∷ xs) h = (h.0, names_taken K n xs h.1)

pub none_left : {A : Type 0} (xs : List A) → length xs ≡ 0 → xs ≡ []
none_left [] e = refl
none_left (x ∷ xs) e = absurd (omega (arith, e))

-- ---- the function that waited last

no_end : {A : Type 0} (xs : List A) (x : A) → xs ++ x ∷ [] ≡ [] → ⊥
no_end [] x e = cc
no_end (y ∷ ys) x e = cc

module _ (tree : ℕ → List Item) where
  pub record Last (fs : List Frame) (f : Frame) (ws : List Waiter) : Type 0 where
    pub waiter : Waiter
    pub others : List Waiter
    pub all : ws ≡ waiter ∷ others
    pub frames : AreFrames tree fs others
    pub waits : WaitsBy tree f waiter others

  pub last_waits : (all : List Frame) (ws : List Waiter) → AreFrames tree all ws → (fs : List Frame) (f : Frame) → all ≡ fs ++ f ∷ [] → Last fs f ws
  last_waits _ _ none_waits fs f e = absurd (no_end fs f (sym e))
  last_waits _ _ (one_waits gs g {w = w} {ws = ws} h k) fs f e =
      let same = snoc_same gs fs g f e in
      record {
        waiter = w;
        others = ws;
        all = refl;
        frames = subst (λ (qs : List Frame). AreFrames tree qs ws) same.0 h;
        waits = subst (λ (q : Frame). WaitsBy tree q w ws) same.1 k;
      }

  pub nobody_waits : (all : List Frame) (ws : List Waiter) → AreFrames tree all ws → all ≡ [] → ws ≡ []
  nobody_waits _ _ none_waits e = refl
  nobody_waits _ _ (one_waits gs g {w = w} {ws = ws} h k) e = absurd (no_end gs g e)

module _ {W S : Type 0} (state : W → State ℕ S) (modules : S → Modules ℕ) (linked : S → ℕ → Bool) (begins : Importing ℕ S)
    (Ready : W → Type 0) (Keeps : W → W → Type 0) (owns : S → ℕ → List (List ℕ)) where
  abbrev Tree : W → ℕ → List Item
  Tree w = (modules_in state modules linked begins Ready Keeps w).tree

  abbrev Known : W → CodeValue → Type 0
  Known w v = KnowsIn state modules linked begins Ready Keeps w v

  abbrev Gives : W → Frame → Here → List Waiter → CodeValue → W → Machine → Type 0
  Gives w f h ws v after late = GivesBack state modules linked begins Ready Keeps owns w f h ws v after late

  abbrev Follow : W → Here → List Waiter → Active ℕ → Result Next Stop → W → Machine → Type 0
  Follow w h ws body result after late = Followed state modules linked begins Ready Keeps owns w h ws body result after late

  module _ (w0 w : W) (h : Here) (ws : List Waiter) (body : Active ℕ) (s late : Machine) (f : Frame) (v : Value) (names : late.names.items ≡ take f.names s.names.items)
      (handlers : late.handlers.items ≡ take f.handlers s.handlers.items) (gives : Gives w0 f h ws (value_of v) w s) where
    names_left : names_on late.names.items ≡ names_under ws
    names_left =
        ap (λ (xs : List (Option Value)). names_on xs) names ∙ ap (λ n. names_on (take n s.names.items)) gives.below.frame.names_below
        ∙ front_names s.names.items (names_under ws) (flat gives.vss) gives.below.names

    handlers_left : late.handlers.items ≡ handlers_under ws
    handlers_left =
        handlers ∙ ap (λ n. take n s.handlers.items) gives.below.frame.handlers_below
        ∙ front s.handlers.items (handlers_under ws) (handlers_of (length (names_under ws)) gives.rounds gives.vss) gives.below.handlers

    -- the body was the caller
    pub to_body : s.frames.items ≡ [] → Follow w0 h ws body (Ok (next.Gave v)) w late
    to_body none =
        let e : ws ≡ [] = nobody_waits (Tree w) s.frames.items ws gives.below.frames none in
        record {
          leads = λ how end seg. subst (λ (us : List Waiter). SegmentOf state modules linked begins Ready Keeps owns w0 h us body how end) (sym e) (gives.gives body [] how end seg);
          known = gives.known;
          is_ready = gives.fits.is_ready;
          keeps = gives.keeps;
        }

    module _ (g : Frame) (frames : s.frames.items ≡ late.frames.items ++ g ∷ []) (items : late.operands.items ≡ s.operands.items ++ v ∷ []) where
      abbrev last : Last (Tree w) late.frames.items g ws
      last = last_waits (Tree w) s.frames.items ws gives.below.frames late.frames.items g frames

      -- the function that waited, with the value on top
      abbrev again : Waiter → Here
      again a = record { at = a.at; function = a.function; spot = Has (Posts a.links a.kont); names = a.names; operands = value_of v ∷ a.operands }

      by_last : (a : Waiter) (others : List Waiter) → ws ≡ a ∷ others → AreFrames (Tree w) late.frames.items others → WaitsBy (Tree w) g a others → Proceeds state modules linked begins Ready Keeps owns w0 h ws body g w late
      by_last a others e fs k =
          let homes = subst (λ (us : List Waiter). Fits state modules linked begins Ready Keeps owns w s h.at us) e gives.fits in
          record {
            there = again a;
            waiters = others;
            stands = record {
              stands = record {
                below = record {
                  names = names_left ∙ ap names_under e;
                  handlers = handlers_left ∙ ap handlers_under e;
                  frames = fs;
                  frame = k.frame;
                  fit = k.fit;
                  rounds = k.rounds;
                };
                operands = ap values_of items ∙ one_above (operands_under others) v a.operands s.operands.items (gives.stacked ∙ ap operands_under e);
                room = k.room;
                place = k.place;
              };
              fits = record {
                is_ready = homes.is_ready;
                home = homes.homes.0;
                homes = homes.homes.1;
                operands = subst (λ (vs : List Value). AllKnown (Known w) (values_of vs)) (sym items) (subst (λ (vs : List CodeValue). AllKnown (Known w) vs) (sym (values_more s.operands.items (v ∷ []))) (known_more (Known w) (values_of s.operands.items) (value_of v ∷ []) homes.operands (gives.known, tt)));
                names = subst (λ (xs : List (Option Value)). AreNamesKnown (Known w) xs) (sym names) (names_taken (Known w) f.names s.names.items homes.names);
              };
            };
            leads = λ how end seg. subst (λ (us : List Waiter). SegmentOf state modules linked begins Ready Keeps owns w0 h us body how end) (sym e)
                (gives.gives (caller modules begins a) (callers modules begins others ++ body ∷ []) how end
                (subst (λ r. Segment nat_eq modules begins (state w) a.at r (callers modules begins others ++ body ∷ []) how end)
                (sym (fill_of (Val (value_of v)) (Posts a.links a.kont) a.names a.operands Waits)) seg));
            keeps = gives.keeps;
          }

      pub to_last : Proceeds state modules linked begins Ready Keeps owns w0 h ws body g w late
      to_last = by_last last.waiter last.others last.all last.frames last.waits

    -- a function was
    pub to_caller : (g : Frame) → s.frames.items ≡ late.frames.items ++ g ∷ [] → (result : Result Next Stop) → GivenTo s.operands.items g v result late.operands.items → Follow w0 h ws body result w late
    to_caller g frames (Ok (next.Goes q)) p = subst (λ q. Follow w0 h ws body (Ok (next.Goes q)) w late) (sym p.0) (to_last g frames p.1)
    to_caller g frames (Ok (next.Gave u)) p = absurd p
    to_caller g frames (Ok (next.Thrown u)) p = absurd p
    to_caller g frames (Err (stops.Limit why)) p = absurd p
    to_caller g frames (Err stops.Memory) p = tt
