-- A rewriting of a part is one of what it stands in.
use Rattle.std.proofs.Common.{ℕ, zero, suc, Bool, List, [], ◌∷◌}
use Rattle.esm_base.specs.declared.limits.Limit.{Limit}
use Rattle.esm_tree.specs.Syntax.{Links}
use Rattle.esm_values.specs.Value.{Value}
use Rattle.esm_values.specs.Operators.{values}
use Rattle.esm_values.specs.Plans.{Rewritten}
use Rattle.esm_values.specs.Plans.Rewritten.{Goes, Leaves, Calls, Stops}
use Rattle.esm_env.specs.Modules.{Modules}
use Rattle.esm_expr_eval.specs.Terms.{Term, Terms, links}
use Rattle.esm_expr_eval.specs.Terms.Term.{Val, Post, Print}
use Rattle.esm_expr_eval.specs.Terms.Terms.{more as further}
use Rattle.esm_expr_eval.specs.Terms.LinkTerms.{call}
use Rattle.esm_expr_eval.specs.Rewriting.{RewritesIn}
use Rattle.esm_expr_eval.specs.Rewriting.Rewrites.{or_in, and_in, equal_in, equal_right, sum_in, sum_right, not_in, post_in, arguments, print_in, error_in, import_in}
use Rattle.esm_expr_eval.specs.Rewriting.RewritesIn.{first, later}
use Rattle.esm_rewriting.specs.Rest.{Rest}
use Rattle.esm_rewriting.specs.State.{Importing}
use Rattle.esm_rewriting.specs.Acts.{Inner, Performs}
use Rattle.esm_rewriting.specs.BodyRewriting.{RewrittenBody, On, RewritesBody, RewritesTerm, own_url}
use Rattle.esm_rewriting.specs.BodyRewriting.RewritesBody.{does}
use Rattle.esm_row_laws.specs.Spots.{Kont, Uses, Ors, Ands, Equals, Compares, Sums, Adds, Turns, Posts, Passes, Prints, Makes, Imports}
use Rattle.esm_row_laws.specs.Rooms.{OneMore, SoMany, HasRoom}
use Rattle.esm_row_laws.specs.Remaining.{plug, under, call_under, print_under}

module _ {N I : Type 0} (same : N → N → Bool) (modules : I → Modules N) (begins : Importing N I) (m : N) where
  abbrev V : Type 0
  V = Value N

  abbrev OfTerm : Inner N I → Term V → Rewritten V Limit (Term V) → Inner N I → Type 0
  OfTerm w e c after = RewritesTerm same modules begins m w e c after

  abbrev OfTerms : Inner N I → Terms V → Rewritten V Limit (Terms V) → Inner N I → Type 0
  OfTerms w es c after = RewritesIn (values same) (own_url same modules begins m) (Performs same modules begins m) w es c after

  abbrev Moves : Inner N I → Rest V → RewrittenBody V Limit → Inner N I → Type 0
  Moves w r move after = RewritesBody same modules begins m w r move after

  abbrev put : Kont → List V → Term V → Rest V
  put k vs e = plug (values same) k vs e

  -- ---- goes

  goes_all : (n : ℕ) (vs : List V) (es : Terms V) (fs : Terms V) (w after : Inner N I) (Room : List V → Type 0) (plug : List V → Term V → Rest V) (ls : Links) → ((us : List V) (e : Term V) (f : Term V) → Room us → OfTerm w e (Goes f) after → Moves w (plug us e) (On (Goes (plug us f))) after) → SoMany n (OneMore Room) vs → OfTerms w es (Goes fs) after → Moves w (call_under (values same) plug ls (under (values same) n vs es)) (On (Goes (call_under (values same) plug ls (under (values same) n vs fs)))) after
  goes_all zero [] es fs w after Room plug ls whole room h = absurd room
  goes_all zero (g ∷ vs) es fs w after Room plug ls whole room h = whole vs (Post (Val g) (call es (links (values same) ls))) (Post (Val g) (call fs (links (values same) ls))) room (arguments h)
  goes_all (suc n) [] es fs w after Room plug ls whole room h = absurd room
  goes_all (suc n) (v ∷ vs) es fs w after Room plug ls whole room h = goes_all n vs (further (Val v) es) (further (Val v) fs) w after Room plug ls whole room (later h)

  goes_printed : (n : ℕ) (vs : List V) (es : Terms V) (fs : Terms V) (w after : Inner N I) (Room : List V → Type 0) (plug : List V → Term V → Rest V) → ((us : List V) (e : Term V) (f : Term V) → Room us → OfTerm w e (Goes f) after → Moves w (plug us e) (On (Goes (plug us f))) after) → SoMany n Room vs → OfTerms w es (Goes fs) after → Moves w (print_under (values same) plug (under (values same) n vs es)) (On (Goes (print_under (values same) plug (under (values same) n vs fs)))) after
  goes_printed zero vs es fs w after Room plug whole room h = whole vs (Print es) (Print fs) room (print_in h)
  goes_printed (suc n) [] es fs w after Room plug whole room h = absurd room
  goes_printed (suc n) (v ∷ vs) es fs w after Room plug whole room h = goes_printed n vs (further (Val v) es) (further (Val v) fs) w after Room plug whole room (later h)

  pub goes : (k : Kont) (vs : List V) (w after : Inner N I) (e : Term V) (f : Term V) → HasRoom k vs → OfTerm w e (Goes f) after → Moves w (put k vs e) (On (Goes (put k vs f))) after
  goes (Uses purpose behind rs) vs w after e f room h = does h
  goes (Ors es k) vs w after e f room h = goes k vs w after _ _ room (or_in h)
  goes (Ands es k) vs w after e f room h = goes k vs w after _ _ room (and_in h)
  goes (Equals cs k) vs w after e f room h = goes k vs w after _ _ room (equal_in h)
  goes (Compares alike cs k) [] w after e f room h = absurd room
  goes (Compares alike cs k) (v ∷ vs) w after e f room h = goes k vs w after _ _ room (equal_right h)
  goes (Sums es k) vs w after e f room h = goes k vs w after _ _ room (sum_in h)
  goes (Adds es k) [] w after e f room h = absurd room
  goes (Adds es k) (v ∷ vs) w after e f room h = goes k vs w after _ _ room (sum_right h)
  goes (Turns k) vs w after e f room h = goes k vs w after _ _ room (not_in h)
  goes (Posts ls k) vs w after e f room h = goes k vs w after _ _ room (post_in h)
  goes (Passes n es ls k) vs w after e f room h = goes_all n vs _ _ w after (HasRoom k) (plug (values same) k) ls (λ us e f r h. goes k us w after e f r h) room (first h)
  goes (Prints n es k) vs w after e f room h = goes_printed n vs _ _ w after (HasRoom k) (plug (values same) k) (λ us e f r h. goes k us w after e f r h) room (first h)
  goes (Makes k) vs w after e f room h = goes k vs w after _ _ room (error_in h)
  goes (Imports k) vs w after e f room h = goes k vs w after _ _ room (import_in h)

  -- ---- leaves

  leaves_all : (n : ℕ) (vs : List V) (v : V) (es : Terms V) (w after : Inner N I) (Room : List V → Type 0) (plug : List V → Term V → Rest V) (ls : Links) → ((us : List V) (e : Term V) → Room us → OfTerm w e (Leaves v) after → Moves w (plug us e) (On (Leaves v)) after) → SoMany n (OneMore Room) vs → OfTerms w es (Leaves v) after → Moves w (call_under (values same) plug ls (under (values same) n vs es)) (On (Leaves v)) after
  leaves_all zero [] v es w after Room plug ls whole room h = absurd room
  leaves_all zero (g ∷ vs) v es w after Room plug ls whole room h = whole vs (Post (Val g) (call es (links (values same) ls))) room (arguments h)
  leaves_all (suc n) [] v es w after Room plug ls whole room h = absurd room
  leaves_all (suc n) (u ∷ vs) v es w after Room plug ls whole room h = leaves_all n vs v (further (Val u) es) w after Room plug ls whole room (later h)

  leaves_printed : (n : ℕ) (vs : List V) (v : V) (es : Terms V) (w after : Inner N I) (Room : List V → Type 0) (plug : List V → Term V → Rest V) → ((us : List V) (e : Term V) → Room us → OfTerm w e (Leaves v) after → Moves w (plug us e) (On (Leaves v)) after) → SoMany n Room vs → OfTerms w es (Leaves v) after → Moves w (print_under (values same) plug (under (values same) n vs es)) (On (Leaves v)) after
  leaves_printed zero vs v es w after Room plug whole room h = whole vs (Print es) room (print_in h)
  leaves_printed (suc n) [] v es w after Room plug whole room h = absurd room
  leaves_printed (suc n) (u ∷ vs) v es w after Room plug whole room h = leaves_printed n vs v (further (Val u) es) w after Room plug whole room (later h)

  pub leaves : (k : Kont) (vs : List V) (v : V) (w after : Inner N I) (e : Term V) → HasRoom k vs → OfTerm w e (Leaves v) after → Moves w (put k vs e) (On (Leaves v)) after
  leaves (Uses purpose behind rs) vs v w after e room h = does h
  leaves (Ors es k) vs v w after e room h = leaves k vs v w after _ room (or_in h)
  leaves (Ands es k) vs v w after e room h = leaves k vs v w after _ room (and_in h)
  leaves (Equals cs k) vs v w after e room h = leaves k vs v w after _ room (equal_in h)
  leaves (Compares alike cs k) [] v w after e room h = absurd room
  leaves (Compares alike cs k) (u ∷ vs) v w after e room h = leaves k vs v w after _ room (equal_right h)
  leaves (Sums es k) vs v w after e room h = leaves k vs v w after _ room (sum_in h)
  leaves (Adds es k) [] v w after e room h = absurd room
  leaves (Adds es k) (u ∷ vs) v w after e room h = leaves k vs v w after _ room (sum_right h)
  leaves (Turns k) vs v w after e room h = leaves k vs v w after _ room (not_in h)
  leaves (Posts ls k) vs v w after e room h = leaves k vs v w after _ room (post_in h)
  leaves (Passes n es ls k) vs v w after e room h = leaves_all n vs v _ w after (HasRoom k) (plug (values same) k) ls (λ us e r h. leaves k us v w after e r h) room (first h)
  leaves (Prints n es k) vs v w after e room h = leaves_printed n vs v _ w after (HasRoom k) (plug (values same) k) (λ us e r h. leaves k us v w after e r h) room (first h)
  leaves (Makes k) vs v w after e room h = leaves k vs v w after _ room (error_in h)
  leaves (Imports k) vs v w after e room h = leaves k vs v w after _ room (import_in h)

  -- ---- calls

  calls_all : (n : ℕ) (vs : List V) (g : V) (us : List V) (es : Terms V) (fs : Terms V) (w after : Inner N I) (Room : List V → Type 0) (plug : List V → Term V → Rest V) (ls : Links) → ((ts : List V) (e : Term V) (f : Term V) → Room ts → OfTerm w e (Calls g us f) after → Moves w (plug ts e) (On (Calls g us (plug ts f))) after) → SoMany n (OneMore Room) vs → OfTerms w es (Calls g us fs) after → Moves w (call_under (values same) plug ls (under (values same) n vs es)) (On (Calls g us (call_under (values same) plug ls (under (values same) n vs fs)))) after
  calls_all zero [] g us es fs w after Room plug ls whole room h = absurd room
  calls_all zero (c ∷ vs) g us es fs w after Room plug ls whole room h = whole vs (Post (Val c) (call es (links (values same) ls))) (Post (Val c) (call fs (links (values same) ls))) room (arguments h)
  calls_all (suc n) [] g us es fs w after Room plug ls whole room h = absurd room
  calls_all (suc n) (v ∷ vs) g us es fs w after Room plug ls whole room h = calls_all n vs g us (further (Val v) es) (further (Val v) fs) w after Room plug ls whole room (later h)

  calls_printed : (n : ℕ) (vs : List V) (g : V) (us : List V) (es : Terms V) (fs : Terms V) (w after : Inner N I) (Room : List V → Type 0) (plug : List V → Term V → Rest V) → ((ts : List V) (e : Term V) (f : Term V) → Room ts → OfTerm w e (Calls g us f) after → Moves w (plug ts e) (On (Calls g us (plug ts f))) after) → SoMany n Room vs → OfTerms w es (Calls g us fs) after → Moves w (print_under (values same) plug (under (values same) n vs es)) (On (Calls g us (print_under (values same) plug (under (values same) n vs fs)))) after
  calls_printed zero vs g us es fs w after Room plug whole room h = whole vs (Print es) (Print fs) room (print_in h)
  calls_printed (suc n) [] g us es fs w after Room plug whole room h = absurd room
  calls_printed (suc n) (v ∷ vs) g us es fs w after Room plug whole room h = calls_printed n vs g us (further (Val v) es) (further (Val v) fs) w after Room plug whole room (later h)

  pub calls : (k : Kont) (vs : List V) (g : V) (us : List V) (w after : Inner N I) (e : Term V) (f : Term V) → HasRoom k vs → OfTerm w e (Calls g us f) after → Moves w (put k vs e) (On (Calls g us (put k vs f))) after
  calls (Uses purpose behind rs) vs g us w after e f room h = does h
  calls (Ors es k) vs g us w after e f room h = calls k vs g us w after _ _ room (or_in h)
  calls (Ands es k) vs g us w after e f room h = calls k vs g us w after _ _ room (and_in h)
  calls (Equals cs k) vs g us w after e f room h = calls k vs g us w after _ _ room (equal_in h)
  calls (Compares alike cs k) [] g us w after e f room h = absurd room
  calls (Compares alike cs k) (v ∷ vs) g us w after e f room h = calls k vs g us w after _ _ room (equal_right h)
  calls (Sums es k) vs g us w after e f room h = calls k vs g us w after _ _ room (sum_in h)
  calls (Adds es k) [] g us w after e f room h = absurd room
  calls (Adds es k) (v ∷ vs) g us w after e f room h = calls k vs g us w after _ _ room (sum_right h)
  calls (Turns k) vs g us w after e f room h = calls k vs g us w after _ _ room (not_in h)
  calls (Posts ls k) vs g us w after e f room h = calls k vs g us w after _ _ room (post_in h)
  calls (Passes n es ls k) vs g us w after e f room h = calls_all n vs g us _ _ w after (HasRoom k) (plug (values same) k) ls (λ ts e f r h. calls k ts g us w after e f r h) room (first h)
  calls (Prints n es k) vs g us w after e f room h = calls_printed n vs g us _ _ w after (HasRoom k) (plug (values same) k) (λ ts e f r h. calls k ts g us w after e f r h) room (first h)
  calls (Makes k) vs g us w after e f room h = calls k vs g us w after _ _ room (error_in h)
  calls (Imports k) vs g us w after e f room h = calls k vs g us w after _ _ room (import_in h)

  -- ---- stops

  stops_all : (n : ℕ) (vs : List V) (why : Limit) (es : Terms V) (w after : Inner N I) (Room : List V → Type 0) (plug : List V → Term V → Rest V) (ls : Links) → ((us : List V) (e : Term V) → Room us → OfTerm w e (Stops why) after → Moves w (plug us e) (On (Stops why)) after) → SoMany n (OneMore Room) vs → OfTerms w es (Stops why) after → Moves w (call_under (values same) plug ls (under (values same) n vs es)) (On (Stops why)) after
  stops_all zero [] why es w after Room plug ls whole room h = absurd room
  stops_all zero (g ∷ vs) why es w after Room plug ls whole room h = whole vs (Post (Val g) (call es (links (values same) ls))) room (arguments h)
  stops_all (suc n) [] why es w after Room plug ls whole room h = absurd room
  stops_all (suc n) (v ∷ vs) why es w after Room plug ls whole room h = stops_all n vs why (further (Val v) es) w after Room plug ls whole room (later h)

  stops_printed : (n : ℕ) (vs : List V) (why : Limit) (es : Terms V) (w after : Inner N I) (Room : List V → Type 0) (plug : List V → Term V → Rest V) → ((us : List V) (e : Term V) → Room us → OfTerm w e (Stops why) after → Moves w (plug us e) (On (Stops why)) after) → SoMany n Room vs → OfTerms w es (Stops why) after → Moves w (print_under (values same) plug (under (values same) n vs es)) (On (Stops why)) after
  stops_printed zero vs why es w after Room plug whole room h = whole vs (Print es) room (print_in h)
  stops_printed (suc n) [] why es w after Room plug whole room h = absurd room
  stops_printed (suc n) (v ∷ vs) why es w after Room plug whole room h = stops_printed n vs why (further (Val v) es) w after Room plug whole room (later h)

  pub stops : (k : Kont) (vs : List V) (why : Limit) (w after : Inner N I) (e : Term V) → HasRoom k vs → OfTerm w e (Stops why) after → Moves w (put k vs e) (On (Stops why)) after
  stops (Uses purpose behind rs) vs why w after e room h = does h
  stops (Ors es k) vs why w after e room h = stops k vs why w after _ room (or_in h)
  stops (Ands es k) vs why w after e room h = stops k vs why w after _ room (and_in h)
  stops (Equals cs k) vs why w after e room h = stops k vs why w after _ room (equal_in h)
  stops (Compares alike cs k) [] why w after e room h = absurd room
  stops (Compares alike cs k) (v ∷ vs) why w after e room h = stops k vs why w after _ room (equal_right h)
  stops (Sums es k) vs why w after e room h = stops k vs why w after _ room (sum_in h)
  stops (Adds es k) [] why w after e room h = absurd room
  stops (Adds es k) (v ∷ vs) why w after e room h = stops k vs why w after _ room (sum_right h)
  stops (Turns k) vs why w after e room h = stops k vs why w after _ room (not_in h)
  stops (Posts ls k) vs why w after e room h = stops k vs why w after _ room (post_in h)
  stops (Passes n es ls k) vs why w after e room h = stops_all n vs why _ w after (HasRoom k) (plug (values same) k) ls (λ us e r h. stops k us why w after e r h) room (first h)
  stops (Prints n es k) vs why w after e room h = stops_printed n vs why _ w after (HasRoom k) (plug (values same) k) (λ us e r h. stops k us why w after e r h) room (first h)
  stops (Makes k) vs why w after e room h = stops k vs why w after _ room (error_in h)
  stops (Imports k) vs why w after e room h = stops k vs why w after _ room (import_in h)
