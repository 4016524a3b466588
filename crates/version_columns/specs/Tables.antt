-- Tables of the analyses in the caller's columns.
use Rattle.std.specs.Prelude.{◌≡◌, ◌==◌, ◌&&◌, ◌+ℤ◌, ℕ, ℤ, pos, List, length, map, filter, fold, nat_lt, true, Option, Some, unwrap_or}
use Rattle.std.specs.{Prelude.{Result, OnOk, OnErr}, List.range_with_len, FinMap.entries}
use Rattle.graph_types.specs.{Graph.Graph, View.enters, Answer.degree_table, Analyses.{AreLevels, AreLabels, AreCoreNumbers}}
use Rattle.graph_types.specs.declared.ids.Filter.{Filter}
use Rattle.version_columns.specs.declared.views.{View.View, ColumnError.ColumnError}
use Rattle.version_columns.specs.Views.{filter_of, first_view_refusal, column_outcome, no_number, IsWritten}

-- core numbers, and labels
abbrev pub WritesCores : Graph → View → List ℕ → List ℕ → Result (Unit {0}) ColumnError → Type 0
WritesCores g view old new result =
    IsWritten (first_view_refusal (filter_of g view) true (length old == length g.names)) old new
    ((f : Filter) × (filter_of g view ≡ Some f) × AreCoreNumbers f g new) result

abbrev pub WritesLabels : Graph → View → List ℕ → List ℕ → Result (Unit {0}) ColumnError → Type 0
WritesLabels g view old new result =
    IsWritten (first_view_refusal (filter_of g view) true (length old == length g.names)) old new
    ((f : Filter) × (filter_of g view ≡ Some f) × AreLabels f g new) result

-- levels from a source: a number that is no level where no walk leads
abbrev pub WritesLevels : Graph → View → ℕ → List ℕ → List ℕ → Result (Unit {0}) ColumnError → Type 0
WritesLevels g view source old new result =
    IsWritten (first_view_refusal (filter_of g view) (nat_lt source (length g.names)) (length old == length g.names)) old new
    ((f : Filter) × (filter_of g view ≡ Some f)
    × ((found : List (Option ℕ)) × AreLevels f g source found × (new ≡ map (λ level. unwrap_or level no_number) found))) result

-- degrees, in three columns
pub record DegreeColumns : Type 0 where
  pub outgoing : List ℕ
  pub incoming : List ℕ
  pub weights : List ℤ

abbrev pub degree_columns : List ℕ → List ℕ → List ℤ → DegreeColumns
degree_columns outgoing incoming weights = record { outgoing = outgoing; incoming = incoming; weights = weights }

pub record AreDegrees (f : Filter) (g : Graph) (c : DegreeColumns) : Type 0 where
  pub outgoing_are : c.outgoing ≡ map (λ d. d.outgoing) (degree_table f g)
  pub incoming_are : c.incoming ≡ map (λ d. d.incoming) (degree_table f g)
  pub weights_are : c.weights ≡ map (λ d. d.out_weight) (degree_table f g)

abbrev pub WritesDegrees : Graph → View → DegreeColumns → DegreeColumns → Result (Unit {0}) ColumnError → Type 0
WritesDegrees g view old new result =
    IsWritten (first_view_refusal (filter_of g view) true ((length old.outgoing == length g.names)
    && (length old.incoming == length g.names) && (length old.weights == length g.names))) old new
    ((f : Filter) × (filter_of g view ≡ Some f) × AreDegrees f g new) result

-- the sum of the weights of the edges of the view that enter v
abbrev pub in_weight : Filter → Graph → ℕ → ℤ
in_weight f g v = fold ◌+ℤ◌ (pos 0) (map (λ e. e.1.weight) (filter (enters f v) (entries g.edges)))

-- those of the vertices in number order
abbrev pub in_weights : Filter → Graph → List ℤ
in_weights f g = map (in_weight f g) (range_with_len 0 (length g.names))

-- they are written, or refused by the first refusal that holds and then nothing is
pub record WritesWeightsIn (g : Graph) (view : View) (old new : List ℤ) (result : Result (Unit {0}) ColumnError) : Type 0 where
  pub answer : result ≡ column_outcome (first_view_refusal (filter_of g view) true (length old == length g.names))
  pub written : OnOk result ((f : Filter) × (filter_of g view ≡ Some f) × (new ≡ in_weights f g))
  pub same : OnErr result (new ≡ old)
