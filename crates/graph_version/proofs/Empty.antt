-- The version without batches is a version.
use Rattle.std.proofs.Common.{◌≡◌, ◌∙◌, ℕ, List, [], Bool, refl, sym, ap, arith, true≢false, ◌∷◌}
use Rattle.std.specs.{Option.is_some, FinMap.get-empty, FinMap.len-empty}
use Rattle.graph_types.specs.{Graph.Graph, Graph.Stamp, Graph.key_cmp, Step.empty_graph_in, declared.batches.NamedOp.NamedOp}
use Rattle.graph_types.{specs.Limits.{LimitsView, AreLimits, standard_limits}, proofs.Empty.empty_weights}
use Rattle.graph_types.specs.Step.{left_by}
use Rattle.graph_types.proofs.ChangedContents.{standard_are_limits}
use Rattle.edge_block.specs.Slots.{BlockView}
use Rattle.edge_block.proofs.Untouched.{no_row}
use Rattle.vertex_names.specs.Book.{Book, empty_book}
use Rattle.graph_version.specs.{Versions.IsVersion, Versions.{empty_version, empty_version_in}, Kept.version_of, Kept.IsSummary, Logs.keeps_batches}
use Rattle.graph_version.specs.Versions.{VersionView, content}

pub is_empty_version_in : (limits : LimitsView) → AreLimits limits → IsVersion (empty_version_in limits)
is_empty_version_in limits are = record {
  rows = record {
    layout = record { distinct = λ source. no_row; shows = λ k. sym (get-empty key_cmp k) };
    blocks = λ source k d h. absurd (omega arith);
    numbers = λ i j d h g. absurd (omega arith);
  };
  within = λ k is. absurd (true≢false (sym is ∙ ap is_some (get-empty key_cmp k)));
  small = record {
    names = omega arith;
    kinds = omega arith;
    count = omega arith;
    limits = are;
    weights = empty_weights limits;
  };
}

pub is_empty_version : IsVersion empty_version
is_empty_version = is_empty_version_in standard_limits standard_are_limits

-- what a version keeps is true of the one without batches
pub is_kept_empty : (limits : LimitsView) (names kinds : Book) (opening : Graph) (batches : List (List NamedOp)) (rows : List (List BlockView))
    (edges : ℕ) (keeps : Bool) → AreLimits limits → names ≡ empty_book limits.names → kinds ≡ empty_book limits.kinds
    → opening ≡ empty_graph_in limits → batches ≡ [] → rows ≡ []
    → edges ≡ 0 → keeps ≡ keeps_batches limits → IsSummary names kinds edges keeps (version_of opening batches rows)
is_kept_empty limits names kinds opening batches rows edges keeps are n k o b r e kept =
    rw (n, k, o, b, r, e, kept) (record {
      names_are = refl;
      kinds_are = refl;
      edges_are = sym (len-empty key_cmp Stamp);
      keeps_are = refl;
      version = is_empty_version_in limits are;
    })

abbrev blank_version : VersionView
blank_version = record empty_version { batches = [] ∷ [] }

pub blank_is_version : IsVersion blank_version
blank_is_version = record {
  rows = is_empty_version.rows;
  within = is_empty_version.within;
  small = record {
    names = omega arith;
    kinds = omega arith;
    count = omega arith;
    limits = is_empty_version.small.limits;
    weights = is_empty_version.small.weights;
  };
}

-- version 0 alone: its content is what it began with
pub content_alone : (v : VersionView) → v.batches ≡ [] → content v ≡ v.opening
content_alone v alone = ap (λ bs. left_by bs v.opening) alone
