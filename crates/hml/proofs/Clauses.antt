-- What a function promises in several clauses, from one proof of all: the clauses' names in order.
pub to_value_few : {A B : Type 0} → A × B → record { value : A; few : B }
to_value_few p = record { value = p.0; few = p.1 }

pub to_in_bounds_behind_value : {A B : Type 0} → A × B → record { in_bounds : A; behind_value : B }
to_in_bounds_behind_value p = record { in_bounds = p.0; behind_value = p.1 }

pub to_value_out_after : {A B : Type 0} → A × B → record { value : A; out_after : B }
to_value_out_after p = record { value = p.0; out_after = p.1 }

pub to_value_text_after : {A B : Type 0} → A × B → record { value : A; text_after : B }
to_value_text_after p = record { value = p.0; text_after = p.1 }

pub to_value_out_after_run_unchanged : {A B C : Type 0} → A × (B × C) → record { value : A; out_after : B; run_unchanged : C }
to_value_out_after_run_unchanged p = record { value = p.0; out_after = p.1.0; run_unchanged = p.1.1 }

pub to_result_value_run_unchanged : {A B : Type 0} → A × B → record { result_value : A; run_unchanged : B }
to_result_value_run_unchanged p = record { result_value = p.0; run_unchanged = p.1 }

pub to_value_left_out_after_right_out_after : {A B C : Type 0} → A × (B × C) → record { value : A; left_out_after : B; right_out_after : C }
to_value_left_out_after_right_out_after p = record { value = p.0; left_out_after = p.1.0; right_out_after = p.1.1 }

pub to_left_out_after_right_out_after : {A B : Type 0} → A × B → record { left_out_after : A; right_out_after : B }
to_left_out_after_right_out_after p = record { left_out_after = p.0; right_out_after = p.1 }

pub to_froms_after_ends_after : {A B : Type 0} → A × B → record { froms_after : A; ends_after : B }
to_froms_after_ends_after p = record { froms_after = p.0; ends_after = p.1 }

pub to_found_missing : {A B : Type 0} → A × B → record { found : A; missing : B }
to_found_missing p = record { found = p.0; missing = p.1 }

pub to_value_marks_after_notes_after_counts_after : {A B C D : Type 0} → A × (B × (C × D)) → record { value : A; marks_after : B; notes_after : C; counts_after : D }
to_value_marks_after_notes_after_counts_after p = record { value = p.0; marks_after = p.1.0; notes_after = p.1.1.0; counts_after = p.1.1.1 }

pub to_sizes_forwards : {A B : Type 0} → A × B → record { sizes : A; forwards : B }
to_sizes_forwards p = record { sizes = p.0; forwards = p.1 }

pub to_two_grids_by_index_by_index_2 : {A B C : Type 0} → A × (B × C) → record { two_grids : A; by_index : B; by_index_2 : C }
to_two_grids_by_index_by_index_2 p = record { two_grids = p.0; by_index = p.1.0; by_index_2 = p.1.1 }

pub to_few_exact : {A B : Type 0} → A × B → record { few : A; exact : B }
to_few_exact p = record { few = p.0; exact = p.1 }

pub to_first_le_n_first_bound : {A B : Type 0} → A × B → record { first_le_n : A; first_bound : B }
to_first_le_n_first_bound p = record { first_le_n = p.0; first_bound = p.1 }

pub to_operator_bound_below_bound : {A B : Type 0} → A × B → record { operator_bound : A; below_bound : B }
to_operator_bound_below_bound p = record { operator_bound = p.0; below_bound = p.1 }

pub to_sound_table_ready_run_in_bounds : {A B C : Type 0} → A × (B × C) → record { sound_table : A; ready : B; run_in_bounds : C }
to_sound_table_ready_run_in_bounds p = record { sound_table = p.0; ready = p.1.0; run_in_bounds = p.1.1 }

pub to_value_same : {A B : Type 0} → A × B → record { value : A; same : B }
to_value_same p = record { value = p.0; same = p.1 }
