-- A class with its cost as one number, a key, and the two passes over rows of eight keys by position, as the code has them.
use Rattle.std.specs.Prelude.{cond, List, [], ◌∷◌, ℕ, zero, suc, ◌+◌, ◌*◌, ◌-◌, ◌/◌, ◌%◌, ◌<◌, ◌≤◌, min, get_or, set, replicate, eqb, ltb}
use Rattle.std.specs.Int.Bits.{bit_or}
use Rattle.semantics.specs.Basics.{below, row_of}
use Rattle.semantics.specs.Limits.{max_tables, max_plots, max_classes}
use Rattle.semantics.specs.Network.{Link, root, child, Label, unlabelled, class}
use Rattle.semantics.specs.Solutions.{class_at}
use Rattle.semantics.specs.Relabelling.{rank_by}
use Rattle.network.specs.declared.Network.{Network}
use Rattle.stored.specs.Values.{link_at, label_at}
use Rattle.messages.specs.Rows.{filled, own_rows}
use Rattle.messages.specs.Columns.{column_of, in_columns}
use Rattle.relabel.specs.Costs.{never_number, together, own_costs}

-- how many ranks are told apart in a key
abbrev pub ranks : ℕ
ranks = 16

-- all bits of a key
abbrev pub bar_number : ℕ
bar_number = 65535

-- the key of a class at a cost: the cost first, then where the class stands in the order of preference
abbrev pub key_in : Label → ℕ → ℕ → ℕ
key_in label cost c = cost * ranks + rank_by label c

-- a row of numbers none of which is past "never": then its keys have 16 bits
pub record AreCosts (row : List ℕ) : Type 0 where
  pub paid : (c : ℕ) → get_or row c 0 ≤ never_number

-- the keys of a row of costs
unfoldable pub key_row : List ℕ → Label → List ℕ
key_row row label = row_of max_classes (λ c. key_in label (get_or row c 0) c)

-- what bars a key by a bit, 0 or 1: nothing where it is set, else all bits
abbrev pub bar_of : ℕ → ℕ
bar_of bit = (1 - bit) * bar_number

-- the same for a column of bits, for all columns of a table, and for the first n tables
unfoldable pub bars_of : List ℕ → List ℕ
bars_of column = row_of max_classes (λ b. bar_of (get_or column b 0))

unfoldable pub table_bars : List ℕ → ℕ → List (List ℕ)
table_bars rows table = row_of max_classes (λ c. bars_of (column_of rows table c))

unfoldable pub all_bars : List ℕ → ℕ → List (List (List ℕ))
all_bars rows tables = filled (replicate max_classes (replicate max_classes 0)) max_tables (table_bars rows) tables

-- what bars the classes below a link; nothing bars those of a root
abbrev pub bars_below : Link → List (List (List ℕ)) → List (List ℕ)
bars_below root bars = replicate max_classes (replicate max_classes 0)
bars_below (child parent table) bars = get_or bars table []

-- the least of a number and of what each element of a list has
abbrev pub least_of : ℕ → (ℕ → ℕ) → List ℕ → ℕ
least_of z g [] = z
least_of z g (c ∷ cs) = min (g c) (least_of z g cs)

-- the least of the first k keys beside a class of the parent, by what bars them
abbrev pub least_key : List ℕ → List (List ℕ) → ℕ → ℕ → ℕ
least_key keys bars b k = least_of bar_number (λ c. bit_or (get_or keys c 0) (in_columns bars b c)) (below k)

-- an offer: the least key beside each class of the parent
unfoldable pub offered : List ℕ → List (List ℕ) → List ℕ
offered keys bars = row_of max_classes (λ b. least_key keys bars b max_classes)

-- an offer with a key more
unfoldable pub lowered : List ℕ → ℕ → List ℕ → List ℕ
lowered offer key bars = row_of max_classes (λ b. min (get_or offer b 0) (bit_or key (get_or bars b 0)))

-- what a row of costs becomes once a child's offer is folded into it
unfoldable pub folded_offer : List ℕ → List ℕ → List ℕ
folded_offer row offer = row_of max_classes (λ c. together (get_or row c 0) (get_or offer c 0 / ranks))

-- a cost with the least that a root costs
abbrev pub with_root_offer : Link → List ℕ → ℕ → ℕ
with_root_offer root offer cost = together cost (get_or offer 0 0 / ranks)
with_root_offer (child parent table) offer cost = cost

-- the class of the parent above a link, by the class of each plot; a root offers the same beside each
abbrev pub class_above : Link → (ℕ → ℕ) → ℕ
class_above root class_of = 0
class_above (child parent table) class_of = class_of parent

-- the class that stands at a rank: the label's at 0, and each other at its number plus one
abbrev pub unrank : Label → ℕ → ℕ
unrank unlabelled r = r - 1
unrank (class l) r = cond (eqb r 0) l (r - 1)

-- the class that a key says; 0 where it says that none can be had
abbrev pub key_class : Label → ℕ → ℕ
key_class label v = cond (ltb (v / ranks) never_number) (unrank label (v % ranks)) 0

-- the rows of costs once an offer is made up a link
abbrev pub folded_up : Link → List ℕ → List (List ℕ) → List (List ℕ)
folded_up root offer rows = rows
folded_up (child parent table) offer rows = set rows parent (folded_offer (get_or rows parent []) offer)

-- what plots offer, by what bars the classes below each table
module _ (n : Network) (bars : List (List (List ℕ))) where
  -- the plot at a position, by the rows of costs
  abbrev pub offer_at : List (List ℕ) → ℕ → List ℕ
  offer_at rows i = offered (key_row (get_or rows i []) (label_at n.labels i)) (bars_below (link_at n.parents n.through i) bars)

  -- the offers once the first j plots have made theirs, newest first, each by the rows into which those before it are folded
  abbrev pub offers_to : ℕ → List (List ℕ) → List (List ℕ) → List (List ℕ)
  offers_to zero rows offers = offers
  offers_to (suc j) rows offers =
      let offer = offer_at rows j in
      offers_to j (folded_up (link_at n.parents n.through j) offer rows) (set offers j offer)

  -- those of all plots, from their own costs on; zeros past the last plot
  unfoldable pub all_offers : List (List ℕ)
  all_offers = offers_to n.plots (own_rows own_costs n) (replicate max_plots (replicate max_classes 0))

module _ (n : Network) where
  -- a cost with the least of each root among the first j plots, by their offers
  abbrev pub totalled_by : List (List ℕ) → ℕ → ℕ → ℕ
  totalled_by offers zero cost = cost
  totalled_by offers (suc j) cost = totalled_by offers j (with_root_offer (link_at n.parents n.through j) (get_or offers j []) cost)

  -- the class of each of the first j plots, newest first, as its offer says beside its parent's
  abbrev pub read_to : List (List ℕ) → ℕ → List ℕ
  read_to offers zero = []
  read_to offers (suc j) =
      let a = read_to offers j in
      key_class (label_at n.labels j) (get_or (get_or offers j []) (class_above (link_at n.parents n.through j) (class_at a)) 0) ∷ a

-- offers that name classes
pub record NameClasses (n : Network) (offers : List (List ℕ)) : Type 0 where
  pub low : (i b : ℕ) → i < n.plots → b < max_classes → key_class (label_at n.labels i) (get_or (get_or offers i []) b 0) < max_classes
