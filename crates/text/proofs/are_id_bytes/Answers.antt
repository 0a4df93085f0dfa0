-- `text::are_id_bytes` meets its contract: the test of all bytes is that of the definition.
use Rattle.std.proofs.Common.{◌&&◌, refl, ◌∙◌, rules}
use Rattle.std.specs.List.{list_all}
use Rattle.std.proofs.lemmas.Iterator.{YieldsList-from_slice}
use Rattle.std.proofs.lemmas.Iterator.Search.{all_from_yields_List}
use Rattle.std.proofs.lemmas.List.Recursion.{same_from_clauses}
use Rattle.semantics.specs.Basics.{every}
use Rattle.semantics.specs.Text.{is_id_byte}
use Rattle.text.proofs.are_id_bytes.Goals as goal

pub returns : goal.returns
returns c =
    let s = c.args.s.now in
    all_from_yields_List is_id_byte _ _ _ c.all.ensures.ran (YieldsList-from_slice s cc) (λ x b q k. search rules)
    ∙ same_from_clauses (list_all is_id_byte) (every is_id_byte) (λ b t. is_id_byte b && t) refl (λ _ _. refl) (λ _ _. refl) s
