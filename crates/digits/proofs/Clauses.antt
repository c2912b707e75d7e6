-- What a function promises in two clauses, from one proof of both.
pub to_value_out_after : {A B : Type 0} → A × B → record { value : A; out_after : B }
to_value_out_after p = record { value = p.0; out_after = p.1 }
