-- Graphs as values of a model.
use Rattle.std.specs.{Prelude.{ℕ, ℤ, List, refl}, Coded.{Coded, code_by, coded×, coded_ℕ, coded_ℤ, coded_list}, FinMap.FinMap}
use Rattle.std.specs.FinMap.{code}
use Rattle.graph_types.specs.{Graph.{Graph, Key, Stamp, key_cmp}, Limits.LimitsView}

abbrev pub key_code : Coded Key
key_code = code_by (ℕ × (ℕ × ℕ)) (coded× coded_ℕ (coded× coded_ℕ coded_ℕ)) (λ k. (k.kind, (k.source, k.target)))
    (λ p. record { kind = p.0; source = p.1.0; target = p.1.1 }) (λ _. refl)

abbrev pub stamp_code : Coded Stamp
stamp_code = code_by (ℤ × (ℕ × ℕ)) (coded× coded_ℤ (coded× coded_ℕ coded_ℕ)) (λ s. (s.weight, (s.first, s.recent)))
    (λ p. record { weight = p.0; first = p.1.0; recent = p.1.1 }) (λ _. refl)

abbrev pub names_code : Coded (List (List ℕ))
names_code = coded_list (coded_list coded_ℕ)

abbrev pub limits_code : Coded LimitsView
limits_code = code_by (ℕ × (ℕ × (ℕ × ℕ))) (coded× coded_ℕ (coded× coded_ℕ (coded× coded_ℕ coded_ℕ)))
    (λ l. (l.names, (l.kinds, (l.batches, l.weight))))
    (λ p. record { names = p.0; kinds = p.1.0; batches = p.1.1.0; weight = p.1.1.1 }) (λ _. refl)

abbrev pub graph_code : Coded Graph
graph_code = code_by (List (List ℕ) × (List (List ℕ) × (FinMap key_cmp Stamp × LimitsView)))
    (coded× names_code (coded× names_code (coded× (code key_code stamp_code) limits_code)))
    (λ g. (g.names, (g.kinds, (g.edges, g.limits))))
    (λ p. record { names = p.0; kinds = p.1.0; edges = p.1.1.0; limits = p.1.1.1 }) (λ _. refl)
