use Rattle.std.proofs.Common.{◌≡◌, ◌∙◌, sym, ap, subst, codes}
use Rattle.std.specs.Result.{IfOk}
use Rattle.esm_grammar.specs.Names.{has_text}
use Rattle.esm_grammar.specs.EarlyErrors.{has_repeat, exported_names, module_names, exports_twice, exports_then, declares_twice}
use Rattle.esm_parse_mod.specs.Inner.Names.{texts, any_item_wrong, held, Holds}
use Rattle.esm_parse_mod.proofs.EarlyLemmas.{unset, twice_first, then_next, declares_next, errors_last}
use Rattle.esm_parse_mod.proofs.errors.has_early_error.Goals as goal

pub returns-in_default : goal.returns-in_default
unfolding exports_twice
returns-in_default c =
    let k = ap texts c.deref.ensures.value ∙ c.in_ok-exported.ensures ∙ ap exported_names c.items-items.ensures.items in
    sym (twice_first _ (ap has_repeat (sym k) ∙ unset _ _ c.in_default.not-Some c.in_ok-exports.ensures))

pub returns-then-holds : goal.returns-then-holds
unfolding exports_then
returns-then-holds c =
    let k = ap texts c.deref.ensures.value ∙ c.in_ok-exported.ensures ∙ ap exported_names c.items-items.ensures.items in
    let set : Holds c.deref.result.now c.in-Some.exports = rw c.in-Some.is at c.in_ok-exports.ensures in
    sym (then_next _ (ap (λ t. has_text t (codes "then")) (sym k) ∙ sym (set.same (codes "then")) ∙ sym c.holds.ensures ∙ c.if-holds.true))

pub all_declared-requires : goal.all_declared-requires
all_declared-requires c = c.items-items.ensures.below

pub returns-in_default-declared : goal.returns-in_default-declared
unfolding declares_twice
returns-in_default-declared c =
    let k = ap texts c.deref-2.ensures.value ∙ c.in_ok-names.ensures ∙ ap module_names c.items-items.ensures.items in
    sym (declares_next _ (ap has_repeat (sym k) ∙ unset _ _ c.in_default-declared.not-Some c.in_ok-declared.ensures))

pub returns : goal.returns
unfolding exports_twice exports_then declares_twice
returns c =
    let k = ap texts c.deref.ensures.value ∙ c.in_ok-exported.ensures ∙ ap exported_names c.items-items.ensures.items in
    let m = ap texts c.deref-2.ensures.value ∙ c.in_ok-names.ensures ∙ ap module_names c.items-items.ensures.items in
    let set : Holds c.deref.result.now c.in-Some.exports = rw c.in-Some.is at c.in_ok-exports.ensures in
    let own : Holds c.deref-2.result.now c.in-Some-declared.declared = rw c.in-Some-declared.is at c.in_ok-declared.ensures in
    let twice = ap has_repeat (sym k) ∙ set.distinct in
    let then' = ap (λ t. has_text t (codes "then")) (sym k) ∙ sym (set.same (codes "then")) ∙ sym c.holds.ensures ∙ c.if-holds.false in
    let again = ap has_repeat (sym m) ∙ own.distinct in
    let has = held c.in-Some-declared.declared in
    let all = errors_last c.args.tree.now.items has (λ s. own.same s ∙ ap (λ t. has_text t s) m) twice then' again in
    let base = ap (any_item_wrong has) c.items-items.ensures.items in
    subst (λ t. IfOk c.any_wrong.result (λ b. b ≡ t)) (base ∙ sym all) c.any_wrong.ensures
