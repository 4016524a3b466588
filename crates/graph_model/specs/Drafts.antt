-- Words on the copy of a content that is changed, and on the edges in it.
use Rattle.graph_types.specs.{Graph.{Key, content_of}, declared.ids.Edge.Edge}
use Rattle.graph_types.specs.declared.{changes.EdgeMarks.EdgeMarks, contents.Content.Content}
use Rattle.graph_model.specs.declared.{drafts.Draft.Draft, edges.EdgeKey.EdgeKey}

-- the content that a draft shows
abbrev pub shown_by : Draft → Content
shown_by d = content_of d.names.items d.kinds.items d.edges.items

abbrev pub shown_key : EdgeKey → Key
shown_key k = record { kind = k.kind.0; source = k.source.0; target = k.target.0 }

-- the edge at the key that bears these marks
abbrev pub edge_with : EdgeKey → EdgeMarks → Edge
edge_with k m = record {
  kind = k.kind;
  source = k.source;
  target = k.target;
  weight = m.weight;
  first = m.first;
  recent = m.recent;
}
