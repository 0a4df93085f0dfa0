-- A row that a loop over a child's classes makes: each class changes what stands for all eight classes of the parent at once, by its value
-- and the bits of its column.
use Rattle.std.proofs.Common.{◌≡◌, sym, ap, ◌∙◌, List, [], ℕ, ◌+◌, get_or}
use Rattle.semantics.specs.Basics.{row_of}
use Rattle.semantics.specs.Limits.{max_classes}
use Rattle.semantics.proofs.Rows.{row_cong, row-over}
use Rattle.messages.specs.Columns.{in_columns}

-- F b c is what stands for the parent's class b after the first c classes, and the step how one class more changes it
module _ (step : ℕ → ℕ → ℕ → ℕ) (F : ℕ → ℕ → ℕ) (values : List ℕ) (columns : List (List ℕ))
    (more : (b c : ℕ) → F b (c + 1) ≡ step (F b c) (get_or values c 0) (in_columns columns b c)) where
  next_row : (m c : ℕ)
      → row_of m (λ b. step (get_or (row_of m (λ d. F d c)) b 0) (get_or values c 0) (in_columns columns b c)) ≡ row_of m (λ b. F b (c + 1))
  next_row m c =
      row-over m (λ b x. step x (get_or values c 0) (in_columns columns b c)) (λ d. F d c) 0 ∙ row_cong m _ _ (λ b l. sym (more b c))

  -- A turn of the loop is one class more.
  pub class_turn : (c : ℕ) (acc next : List ℕ) → acc ≡ row_of max_classes (λ b. F b c)
      → next ≡ row_of max_classes (λ b. step (get_or acc b 0) (get_or values c 0) (get_or (get_or columns c []) b 0))
      → next ≡ row_of max_classes (λ b. F b (c + 1))
  class_turn c acc next e q =
      q ∙ ap (λ x. row_of max_classes (λ b. step (get_or x b 0) (get_or values c 0) (in_columns columns b c))) e ∙ next_row max_classes c
