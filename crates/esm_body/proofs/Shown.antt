-- The display texts of values, one by one.
use Rattle.std.proofs.Common.{ℕ, ◌+◌, ◌<◌, ◌≤◌, Bool, List, [], ◌∷◌, ◌++◌, length, drop, refl, subst, sym, get_or, arith}
use Rattle.std.proofs.lemmas.List.{drop_more, append-nil, append_assoc}
use Rattle.std.proofs.Math.ListN.{drop_of_length-le}
use Rattle.std.specs.Prelude.{Result, Ok, Err, IfOk}
use Rattle.esm_resolve.specs.Graph.{Graph}
use Rattle.esm_resolve.specs.Keys.{AreNamespaceKeysOf}
use Rattle.esm_resolve.specs.Renumbered.{FollowsNumbers}
use Rattle.esm_values.specs.Errors.{Errors}
use Rattle.esm_values.specs.Code.{value_of, values_of}
use Rattle.esm_values.specs.declared.value.Value.{Value}
use Rattle.esm_env.specs.Modules.{Modules, graph}
use Rattle.esm_env.specs.Scopes.{Scopes}
use Rattle.esm_rewriting.specs.Fits.{AreLinked}
use Rattle.esm_body.specs.Importers.{HasLinked}
use Rattle.esm_body.specs.Inner.Displayed.{IsShown, AreShown, IsKeys}
use Rattle.esm_rewriting.proofs.KeysThere.{keys_utf8}
use Rattle.esm_body.proofs.LinkedGraph.{renumbers}

module _ (g : Modules ℕ) (linked : ℕ → Bool) (e : Scopes) (errors : Errors) where
  -- where what is left is shown so, all is
  abbrev pub LeadsOn : List Value → ℕ → List (List ℕ) → Type 0
  LeadsOn values i texts = (ts : List (List ℕ)) → AreShown g linked e errors (values_of (drop i values)) ts → AreShown g linked e errors (values_of values) (texts ++ ts)

  pub leads_begin : (values : List Value) → LeadsOn values 0 []
  leads_begin values = λ ts h. h

  pub leads_on : (values : List Value) (i : ℕ) (d : Value) (texts : List (List ℕ)) (text : List ℕ) → i < length values
      → IsShown g linked e errors (value_of (get_or values i d)) text → LeadsOn values i texts → LeadsOn values (i + 1) (texts ++ text ∷ [])
  leads_on values i d texts text lt shown h = λ ts k.
      rw (append_assoc texts (text ∷ []) ts)
      (h (text ∷ ts) (subst (λ vs. AreShown g linked e errors (values_of vs) (text ∷ ts)) (sym (drop_more values i d lt)) (λ a l n. (text, ts, shown a l n.0, k a l n.1, refl))))

  pub leads_end : (values : List Value) (i : ℕ) (texts : List (List ℕ)) → length values ≤ i → LeadsOn values i texts → AreShown g linked e errors (values_of values) texts
  leads_end values i texts h k =
      subst (AreShown g linked e errors (values_of values)) (append-nil texts)
      (k [] (subst (λ vs. AreShown g linked e errors (values_of vs) []) (sym (drop_of_length-le values h)) (λ a l n. refl)))

-- ---- keys

module _ (g : Modules ℕ) (h : Graph) (urls : ℕ → List ℕ) (linked : ℕ → Bool) (same : AreLinked g linked → HasLinked g linked h urls) (m : ℕ) (keys : List (List ℕ)) where
  pub keys_are : FollowsNumbers → AreNamespaceKeysOf h m keys → IsKeys g linked m keys
  keys_are follows k = λ links is.
      let a = follows.keys h (graph g) g.number m keys (renumbers g linked h urls links (same links) m is) k in
      (a, keys_utf8 g linked links m keys is a)

  pub keys_not : h.size ≤ m → IsKeys g linked m keys
  keys_not le = λ links is. let b = (same links).below m is in absurd (omega (arith, b, le))

pub weaker : {A E : Type 0} (P Q : A → Type 0) → ((x : A) → P x → Q x) → (r : Result A E) → IfOk r P → IfOk r Q
weaker P Q k (Ok x) h = k x h
weaker P Q k (Err end) h = h
